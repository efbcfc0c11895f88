use Rattle.std.proofs.Common.{ap, length, length-append, ◌≡◌, ◌∙◌, [], ◌∷◌, ◌++◌, arith}
use Rattle.std.proofs.lemmas.Grind.{common_steps}
use Rattle.c_lex.specs.declared.pieces.Piece.TheVariants.{Between, Is, Bad, Wide}
use Rattle.c_lex.specs.Texts.{piece_at}
use Rattle.c_lex.proofs.Steps.{at_first, past_between, past_token, at_bad, at_wide, at_last}
use Rattle.c_lex.proofs.texts.lex.Goals as goal

pub loop-at-init : goal.loop-at-init
loop-at-init c = record {
  within = omega arith;
  few = omega (arith, ap length c.new-found.ensures.items);
  same = rw c.new-found.ensures.items (at_first c.as_bytes-bytes.result.now);
}

pub loop-at-preserved-in-Between : goal.loop-at-preserved-in-Between
loop-at-preserved-in-Between c =
    let within = rw c.in-Between.is at c.in_ok-piece.ensures.within in
    let here : Between c.in-Between.count ≡ piece_at c.as_bytes-bytes.result.now c.loop-at.at =
    cc c.in_ok-piece.ensures.is in
    record {
      within = omega (arith, within.1, c.split_at.ensures.back_len);
      few = omega arith;
      same = past_between c.as_bytes-bytes.result.now c.loop-at.at c.in-Between.count c.loop-at.found.items
          (omega arith) here ∙ c.loop-at.invariant.same;
    }

pub loop-at-preserved : goal.loop-at-preserved
loop-at-preserved c =
    let within = rw c.in-Is.is at c.in_ok-piece.ensures.within in
    let here : Is c.in-Is.token c.in-Is.count ≡ piece_at c.as_bytes-bytes.result.now c.loop-at.at =
    cc c.in_ok-piece.ensures.is in
    let pushed : c.push.new.self.items ≡ c.loop-at.found.items ++ c.in-Is.token ∷ [] = grind (arith, common_steps) in
    record {
      within = omega (arith, within.1, c.split_at.ensures.back_len);
      few = omega (arith, within.0, ap length pushed, length-append c.loop-at.found.items (c.in-Is.token ∷ []));
      same = rw pushed (past_token c.as_bytes-bytes.result.now c.loop-at.at c.in-Is.count c.in-Is.token
          c.loop-at.found.items (omega arith) here ∙ c.loop-at.invariant.same);
    }

pub returns-in-Bad-clause-fault : goal.returns-in-Bad-clause-fault
returns-in-Bad-clause-fault c =
    let here : Bad ≡ piece_at c.as_bytes-bytes.result.now c.loop-at.at = cc c.in_ok-piece.ensures.is in
    let told = at_bad c.as_bytes-bytes.result.now c.loop-at.at c.loop-at.found.items (omega arith) here in
    cc

pub returns-in-Wide-clause-fault : goal.returns-in-Wide-clause-fault
returns-in-Wide-clause-fault c =
    let here : Wide c.in-Wide.further ≡ piece_at c.as_bytes-bytes.result.now c.loop-at.at =
    cc c.in_ok-piece.ensures.is in
    let told = at_wide c.as_bytes-bytes.result.now c.loop-at.at c.in-Wide.further c.loop-at.found.items
    (omega arith) here in
    cc

pub returns-clause-tokens : goal.returns-clause-tokens
returns-clause-tokens c =
    let told = at_last c.as_bytes-bytes.result.now c.loop-at.at c.loop-at.found.items (omega arith) in
    cc
