use Rattle.patmos_core.proofs.Stillness.{sends_so}
use Rattle.patmos_core.proofs.tasked.Tasked.window.Goals as goal

pub returns : goal.returns
returns c = record {
  sends = sends_so c.args.self.now.body.ni c.args.next c.window_in.result c.args.self.now.cycle c.args.self.now.phase
      c.requires.act c.args.self.now.sound.ni c.requires.next
      c.window_in.ensures.packet c.window_in.ensures.none;
}
