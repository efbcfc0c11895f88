-- What a part leaves after it, by its way on.
use Rattle.std.proofs.Common.{◌≡◌, ◌≢◌, ℕ, ◌<◌, ◌≤◌, Bool, true, false, if◌then◌else◌, refl, ap, sym, ◌∙◌, arith, true≢false, ◌⊎◌, inl, inr}
use Rattle.std.specs.Prelude.{bit_and}
use Rattle.std.proofs.lemmas.Bool.{cases_eq}
use Rattle.sp_tree.specs.Straight.{State, with_slot, worth}
use Rattle.c_meaning.specs.Actions.{PlainAction}
use Rattle.c_meaning.specs.declared.ways.Way.{Way}
use Rattle.c_meaning.specs.declared.ways.Way.TheVariants as way
use Rattle.c_meaning.specs.Meaning.{Done, goes_on, way_value}
use Rattle.c_meaning.specs.Values as values
use Rattle.single_path.specs.declared.part_words.PartWords.{PartWords}
use Rattle.single_path.specs.PartWords.{in_loop, bit_of}
use Rattle.single_path.specs.Made.{ends}
use Rattle.single_path.proofs.Frames.{put_here, Order, Still, set_after}
use Rattle.single_path.proofs.Idle.{Dead}
use Rattle.single_path.proofs.Agreeing.{Agrees, Sets, still_agrees}

abbrev pub function_of : Way → ℕ
function_of (way.Returned v) = 0
function_of _ = 1

-- by whether the loop counts
abbrev pub loop_of : Bool → Way → ℕ
loop_of counted way.On = 1
loop_of counted way.Continued = if counted then 0 else 2
loop_of counted _ = 0

abbrev pub own_of : Way → ℕ
own_of way.On = 1
own_of _ = 0

pub record Live (p : PartWords) (s : State) : Type 0 where
  pub own : s.frame p.own ≡ 1
  pub loop : s.frame p.iteration ≡ 1
  pub function : s.frame p.function ≡ 1
  pub result : s.frame p.result ≡ 0

-- what a part left: the words of variables and memories, what it returns, and the masks. Its own mask may still be 1
-- where it went elsewhere; of the words before the first free one it changed no other
pub record Went (n : ℕ) (p : PartWords) (s : State) (d : Done) (t : State) : Type 0 where
  pub same : Agrees n t d.state
  pub result : t.frame p.result ≡ way_value d.way
  pub function : t.frame p.function ≡ function_of d.way
  pub loop : t.frame p.iteration ≡ loop_of p.counted d.way
  pub own : p.own ≢ p.iteration → (t.frame p.own ≡ 1) ⊎ ((t.frame p.own ≡ 0) × (d.way ≢ way.On))
  pub others : (x : ℕ) → n ≤ x → x < p.free → x ≢ p.result → x ≢ p.function → x ≢ p.iteration → x ≢ p.own
      → t.frame x ≡ s.frame x

-- an action that does not always go elsewhere leaves masks under which what stands after it acts, or is idle
pub record Acted (a : PlainAction) (n : ℕ) (p : PartWords) (s : State) (d : Done) (t : State) : Type 0 where
  pub went : Went n p s d t
  pub ended : ends a ≡ true → d.way ≢ way.On
  pub idle : ends a ≡ false → d.way ≢ way.On → Dead p t

pub went_own : (n : ℕ) (p : PartWords) (s : State) (d : Done) (t : State) → Went n p s d t → d.way ≡ way.On
    → t.frame p.own ≡ 1
went_own n p s d t h is = by (cases_eq p.own p.iteration)
  where
    on_there : (t.frame p.own ≡ 1) ⊎ ((t.frame p.own ≡ 0) × (d.way ≢ way.On)) → t.frame p.own ≡ 1
    on_there (inl one_there) = one_there
    on_there (inr other) = absurd (other.1 is)

    by : (p.own ≡ p.iteration) ⊎ (p.own ≢ p.iteration) → t.frame p.own ≡ 1
    by (inl same) = ap t.frame same ∙ h.loop ∙ ap (loop_of p.counted) is
    by (inr apart) = on_there (h.own apart)

pub went_live : (n : ℕ) (p : PartWords) (s : State) (l : values.State) (t : State) → Went n p s (goes_on l) t → Live p t
went_live n p s l t h =
    record { own = went_own n p s (goes_on l) t h refl; loop = h.loop; function = h.function; result = h.result }

pub went_still : (n : ℕ) (p : PartWords) (s : State) (d : Done) (t u : State) → Order n p → Went n p s d t
    → Still p.free t u → Went n p s d u
went_still n p s d t u o h k = record {
  same = still_agrees n p.free t u d.state (omega (arith, o.result, o.function, o.loop, o.own, o.free)) k h.same;
  result = k.frame p.result (omega (arith, o.function, o.loop, o.own, o.free)) ∙ h.result;
  function = k.frame p.function (omega (arith, o.loop, o.own, o.free)) ∙ h.function;
  loop = k.frame p.iteration (omega (arith, o.own, o.free)) ∙ h.loop;
  own = λ apart. by (h.own apart);
  others = λ x behind below r f q w. k.frame x below ∙ h.others x behind below r f q w;
}
  where
    own_still : u.frame p.own ≡ t.frame p.own
    own_still = k.frame p.own o.free

    by : (t.frame p.own ≡ 1) ⊎ ((t.frame p.own ≡ 0) × (d.way ≢ way.On)) → (u.frame p.own ≡ 1)
        ⊎ ((u.frame p.own ≡ 0) × (d.way ≢ way.On))
    by (inl is) = inl (own_still ∙ is)
    by (inr is) = inr (own_still ∙ is.0, is.1)

pub went_on : (n : ℕ) (p : PartWords) (s : State) (l : values.State) (t : State) (d : Done) (u : State)
    → Went n p s (goes_on l) t → Went n p t d u → Went n p s d u
went_on n p s l t d u h k = record {
  same = k.same;
  result = k.result;
  function = k.function;
  loop = k.loop;
  own = k.own;
  others = λ x behind below r f q w. k.others x behind below r f q w ∙ h.others x behind below r f q w;
}

pub went_here : (n : ℕ) (p : PartWords) (s : State) (l : values.State) → Live p s → Agrees n s l
    → Went n p s (goes_on l) s
went_here n p s l live h = record {
  same = h;
  result = live.result;
  function = live.function;
  loop = live.loop;
  own = λ apart. inl live.own;
  others = λ x behind below r f q w. refl;
}

-- the mask of a loop begins as that of its part
pub begun_live : (n : ℕ) (p : PartWords) (counted : Bool) (s : State) → Order n p → Live p s
    → Live (record (in_loop p) { counted = counted }) (with_slot p.free (worth (bit_of p.own) s) s)
begun_live n p counted s o live =
    let begun = set_after p.free p.free (worth (bit_of p.own) s) s (omega arith) in
    let word = put_here p.free (worth (bit_of p.own) s) s.frame ∙ ap (λ a. bit_and a 1) live.own in
    record {
      own = word;
      loop = word;
      function = begun.frame p.function (omega (arith, o.loop, o.own, o.free)) ∙ live.function;
      result = begun.frame p.result (omega (arith, o.function, o.loop, o.own, o.free)) ∙ live.result;
    }

-- words below the first free one are set, and no mask
pub low_went : (n : ℕ) (p : PartWords) (s t : State) (l : values.State) → Order n p → Live p s → Agrees n t l
    → ((x : ℕ) → n ≤ x → x < p.free → t.frame x ≡ s.frame x) → Went n p s (goes_on l) t
low_went n p s t l o live agrees others = record {
  same = agrees;
  result = others p.result o.result (omega (arith, o.function, o.loop, o.own, o.free)) ∙ live.result;
  function = others p.function (omega (arith, o.result, o.function)) (omega (arith, o.loop, o.own, o.free))
      ∙ live.function;
  loop = others p.iteration (omega (arith, o.result, o.function, o.loop)) (omega (arith, o.own, o.free)) ∙ live.loop;
  own = λ apart. inl (others p.own (omega (arith, o.result, o.function, o.loop, o.own)) o.free ∙ live.own);
  others = λ x behind below r f q w. others x behind below;
}

pub low_acted : (a : PlainAction) (n : ℕ) (p : PartWords) (s t : State) (l : values.State) → ends a ≡ false → Order n p
    → Live p s → Agrees n t l
    → ((x : ℕ) → n ≤ x → x < p.free → t.frame x ≡ s.frame x) → Acted a n p s (goes_on l) t
low_acted a n p s t l stays o live agrees others = record {
  went = low_went n p s t l o live agrees others;
  ended = λ is. absurd (true≢false (sym is ∙ stays));
  idle = λ is other. absurd (other refl);
}

pub set_acted : (a : PlainAction) (n : ℕ) (p : PartWords) (s t : State) (l : values.State) → ends a ≡ false → Order n p
    → Live p s → Sets n s t l
    → Acted a n p s (goes_on l) t
set_acted a n p s t l stays o live h = low_acted a n p s t l stays o live h.agrees (λ x behind below. h.others x behind)
