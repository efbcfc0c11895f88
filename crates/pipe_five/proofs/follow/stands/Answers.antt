use Rattle.std.proofs.Common.{◌+◌, ◌≤◌, arith}
use Rattle.std.proofs.lemmas.Bool.{leb-true}
use Rattle.pipe_five.proofs.follow.stands.Goals as goal

pub returns-in-Some-clause-within : goal.returns-in-Some-clause-within
returns-in-Some-clause-within c = λ is.
    let fits : c.from.result + c.from-in-Some.result ≤ c.from-in-Some-2.result =
    leb-true (c.from.result + c.from-in-Some.result) c.from-in-Some-2.result is in
    record {
      offset = omega (
        arith,
        fits,
        c.from.ensures,
        c.from-in-Some.ensures,
        c.from-in-Some-2.ensures,
        c.words_at.ensures.words,
        c.in-Some.ensures.inside.small,
        c.in-Some.ensures.size,
      );
      place = omega (
        arith,
        fits,
        c.from.ensures,
        c.from-in-Some.ensures,
        c.from-in-Some-2.ensures,
        c.words_at.ensures.words,
        c.words_at.ensures.within,
        c.in-Some.ensures.inside.inside,
        c.in-Some.ensures.size,
      );
    }
