-- Ways on that are taken, and the masks that are repaired after arms and loops.
use Rattle.std.proofs.Common.{◌≡◌, ◌≢◌, ℕ, ◌<◌, ◌≤◌, ◌==◌, Bool, true, false, if◌then◌else◌, refl, ap, sym, ◌∙◌, arith, eq-eqb, eqb-true, ap₂, subst, true≢false, ◌⊎◌, inl, inr, None}
use Rattle.std.specs.Prelude.{bit_and, bit_xor}
use Rattle.c_world.specs.Numbers.{sum_of}
use Rattle.sp_tree.specs.declared.operators.SpBinary.TheVariants as binary
use Rattle.sp_tree.specs.Plain.{PlainSp, constant, frame_word, between_two}
use Rattle.sp_tree.specs.Statements.{to_slot, masks, writes, no_stmt, stmt, one}
use Rattle.sp_tree.specs.Straight.{State, Serves, with_slot, write_done, worth, stmts_done}
use Rattle.sp_tree.proofs.Joins.{joined_done}
use Rattle.sp_tree.proofs.Runs.{on}
use Rattle.c_meaning.specs.Actions.{PlainAction, breaks, continues, returns}
use Rattle.c_meaning.specs.declared.ways.Way.{Way}
use Rattle.c_meaning.specs.declared.ways.Way.TheVariants as way
use Rattle.c_meaning.specs.Meaning.{Done, way_value}
use Rattle.c_meaning.specs.Resolved as resolved
use Rattle.c_meaning.specs.Values as values
use Rattle.single_path.specs.declared.part_words.PartWords.{PartWords}
use Rattle.single_path.specs.PartWords.{bit_of, broken, continued, returned_function, returned_loop}
use Rattle.single_path.specs.PartWords as mask
use Rattle.single_path.specs.Made.{made_action, made_result, made_on, made_after, is_zero, ends}
use Rattle.single_path.specs.Widths.{expr_words}
use Rattle.single_path.proofs.Frames.{put_here, put_there, Order, set_after}
use Rattle.single_path.proofs.Idle.{Idle, left, waits, skips, gone}
use Rattle.single_path.proofs.Agreeing.{Agrees, still_agrees, worth_same}
use Rattle.single_path.proofs.Ways.{Acted, Live, Went, function_of, loop_of, own_of}

-- ---- ways on that are taken

-- where a `break` or `continue` stands, there is a loop
abbrev pub Nest : Bool → PartWords → Type 0
Nest inside p = inside ≡ true → p.function < p.iteration

-- the loop's mask is set, and no other
loop_set : (n : ℕ) (p : PartWords) (v : ℕ) (w : Way) (s : State) (l : values.State) → Order n p
    → p.function < p.iteration → Live p s → Agrees n s l
    → v ≡ loop_of p.counted w → function_of w ≡ 1 → way_value w ≡ 0 → Went n p s (record { way = w; state = l })
    (with_slot p.iteration v s)
loop_set n p v w s l o nested live h is function value = record {
  same = still_agrees n p.iteration s (with_slot p.iteration v s) l (omega (arith, o.result, o.function, o.loop))
      (set_after p.iteration p.iteration v s (omega arith)) h;
  result = put_there p.iteration v p.result s.frame (omega (arith, o.function, o.loop)) ∙ live.result ∙ sym value;
  function = put_there p.iteration v p.function s.frame (omega (arith, nested)) ∙ live.function ∙ sym function;
  loop = put_here p.iteration v s.frame ∙ is;
  own = λ apart. inl (put_there p.iteration v p.own s.frame (λ e. apart (sym e)) ∙ live.own);
  others = λ x behind below r f q own. put_there p.iteration v x s.frame (λ e. q (sym e));
}

pub broken_acted : (gc : resolved.Serves) (g : Serves) (n : ℕ) (p : PartWords) (s : State) (l : values.State)
    → Order n p → p.function < p.iteration → Live p s → Agrees n s l
    → Acted breaks n p s (resolved.action_done gc breaks l) (stmts_done g (made_action None p breaks) s)
broken_acted gc g n p s l o nested live h = record {
  went = loop_set n p (worth (broken p) s) way.Broken s l o nested live h
      (ap₂ (λ b a. bit_xor b (bit_and a 1)) live.loop live.own) refl refl;
  ended = λ is other. absurd (cc);
  idle = λ is. absurd (true≢false is);
}

-- after `continue`
continued_word : (p : PartWords) (s : State) (counted : Bool) → s.frame p.own ≡ 1 → s.frame p.iteration ≡ 1
    → worth (if counted then broken p else between_two binary.Plus (frame_word p.iteration) (bit_of p.own)) s
    ≡ loop_of counted way.Continued
continued_word p s true own loop = ap₂ (λ b a. bit_xor b (bit_and a 1)) loop own
continued_word p s false own loop = ap₂ (λ b a. sum_of b (bit_and a 1)) loop own

pub continued_acted : (gc : resolved.Serves) (g : Serves) (n : ℕ) (p : PartWords) (s : State) (l : values.State)
    → Order n p → p.function < p.iteration → Live p s → Agrees n s l
    → Acted continues n p s (resolved.action_done gc continues l) (stmts_done g (made_action None p continues) s)
continued_acted gc g n p s l o nested live h = record {
  went = loop_set n p (worth (continued p) s) way.Continued s l o nested live h
      (continued_word p s p.counted live.own live.loop) refl refl;
  ended = λ is other. absurd (cc);
  idle = λ is. absurd (true≢false is);
}

-- the result has its word: where it is 0 as it stands it is not set
record Results (n : ℕ) (p : PartWords) (v : ℕ) (s t : State) (l : values.State) : Type 0 where
  agrees : Agrees n t l
  value : t.frame p.result ≡ v
  others : (x : ℕ) → x ≢ p.result → t.frame x ≡ s.frame x

zero_worth : (e : PlainSp) (l : values.State) → is_zero e ≡ true → resolved.worth e l ≡ 0
zero_worth (constant n) l is = eqb-true n 0 is
zero_worth _ l is = absurd (cc)

result_set : (g : Serves) (n : ℕ) (p : PartWords) (e : PlainSp) (zero_value : Bool) (s : State) (l : values.State)
    → is_zero e ≡ zero_value → n ≤ p.result → Live p s
    → Agrees n s l → expr_words e ≤ n
    → Results n p (resolved.worth e l) s (stmts_done g (if zero_value then no_stmt else one
    (writes p.own (to_slot p.result) e)) s) l
result_set g n p e true s l is behind live h within = record {
  agrees = h;
  value = live.result ∙ sym (zero_worth e l is);
  others = λ x other. refl;
}
result_set g n p e false s l is behind live h within =
    subst (λ t. Results n p (resolved.worth e l) s t l)
    (sym (on p.own (write_done (to_slot p.result) e) s (eq-eqb (s.frame p.own) 1 live.own))) (record {
      agrees = still_agrees n p.result s (with_slot p.result (worth e s) s) l behind (set_after p.result p.result
          (worth e s) s (omega arith)) h;
      value = put_here p.result (worth e s) s.frame ∙ worth_same n e s l h within;
      others = λ x other. put_there p.result (worth e s) x s.frame (λ same. other (sym same));
    })

-- the masks of the function, and of a loop that stands in it
returned_function_set : (p : PartWords) (s : State) (alone : Bool) → s.frame p.own ≡ 1 → s.frame p.function ≡ 1
    → bit_xor (s.frame p.function) (worth (if alone then bit_of p.own else frame_word p.own) s) ≡ 0
returned_function_set p s true own function = ap₂ (λ c a. bit_xor c (bit_and a 1)) function own
returned_function_set p s false own function = ap₂ bit_xor function own

returned_loop_set : (p : PartWords) (s : State) (alone : Bool) → s.frame p.own ≡ 1 → s.frame p.iteration ≡ 1
    → worth (if alone then mask.both (frame_word p.iteration) (constant 2) else mask.without (frame_word p.iteration)
    (frame_word p.own)) s ≡ 0
returned_loop_set p s true own loop = ap (λ b. bit_and b 2) loop
returned_loop_set p s false own loop = ap₂ bit_xor loop own

returned_went : (g : Serves) (n : ℕ) (p : PartWords) (v : ℕ) (outside : Bool) (s t : State) (l : values.State)
    → (p.function == p.iteration) ≡ outside → Order n p → Live p s
    → Results n p v s t l
    → Went n p s (record { way = way.Returned v; state = l })
    (stmts_done g (stmt (masks p.function (returned_function p)) (if outside then no_stmt else one
    (masks p.iteration (returned_loop p)))) t)
returned_went g n p v outside s t l is o live r = by outside is
  where
    own_there : t.frame p.own ≡ 1
    own_there = r.others p.own (omega (arith, o.function, o.loop, o.own)) ∙ live.own

    loop_there : t.frame p.iteration ≡ 1
    loop_there = r.others p.iteration (omega (arith, o.function, o.loop)) ∙ live.loop

    u : State
    u = with_slot p.function (worth (returned_function p) t) t

    function_off : u.frame p.function ≡ 0
    function_off = put_here p.function (worth (returned_function p) t) t.frame
        ∙ returned_function_set p t (p.own == p.iteration) own_there (r.others p.function (omega (arith, o.function))
        ∙ live.function)

    apart : (x : ℕ) → x ≢ p.function → u.frame x ≡ t.frame x
    apart x other = put_there p.function (worth (returned_function p) t) x t.frame (λ e. other (sym e))

    agrees : Agrees n u l
    agrees = still_agrees n p.function t u l (omega (arith, o.result, o.function))
        (set_after p.function p.function (worth (returned_function p) t) t (omega arith)) r.agrees

    by : (outside : Bool) → (p.function == p.iteration) ≡ outside
        → Went n p s (record { way = way.Returned v; state = l }) (stmts_done g (if outside then no_stmt else one
        (masks p.iteration (returned_loop p))) u)
    by true is = let same = eqb-true p.function p.iteration is in record {
      same = agrees;
      result = apart p.result (omega (arith, o.function)) ∙ r.value;
      function = function_off;
      loop = ap u.frame (sym same) ∙ function_off;
      own = λ other. inl (apart p.own (λ e. other (e ∙ same)) ∙ own_there);
      others = λ x behind below not_result not_function not_loop not_own. apart x not_function ∙ r.others x not_result;
    }
    by false is =
        let nested : p.function ≢ p.iteration = λ e. true≢false (sym (eq-eqb p.function p.iteration e) ∙ is) in
        let w = with_slot p.iteration (worth (returned_loop p) u) u in
        let here : w.frame p.iteration ≡ 0 = put_here p.iteration (worth (returned_loop p) u) u.frame
        ∙ returned_loop_set p u (p.own == p.iteration) (apart p.own (λ e. nested (omega (arith, o.loop, o.own, e)))
        ∙ own_there)
        (apart p.iteration (λ e. nested (sym e)) ∙ loop_there) in
        let there : (x : ℕ) → x ≢ p.iteration → w.frame x ≡ u.frame x =
        λ x other. put_there p.iteration (worth (returned_loop p) u) x u.frame (λ e. other (sym e)) in
        record {
          same = still_agrees n p.iteration u w l (omega (arith, o.result, o.function, o.loop))
              (set_after p.iteration p.iteration (worth (returned_loop p) u) u (omega arith)) agrees;
          result = there p.result (omega (arith, o.function, o.loop)) ∙ apart p.result (omega (arith, o.function))
              ∙ r.value;
          function = there p.function nested ∙ function_off;
          loop = here;
          own = λ other. inl (there p.own other ∙ apart p.own (λ e. nested (omega (arith, o.loop, o.own, e)))
              ∙ own_there);
          others = λ x behind below not_result not_function not_loop not_own. there x not_loop ∙ apart x not_function
              ∙ r.others x not_result;
        }

pub returned_acted : (gc : resolved.Serves) (g : Serves) (n : ℕ) (p : PartWords) (e : PlainSp) (s : State)
    (l : values.State) → Order n p → Live p s → Agrees n s l
    → expr_words e ≤ n → Acted (returns e) n p s (resolved.action_done gc (returns e) l) (stmts_done g
    (made_action None p (returns e)) s)
returned_acted gc g n p e s l o live h within =
    let t = stmts_done g (made_result p e) s in
    let rest = stmt (masks p.function (returned_function p))
    (if p.function == p.iteration then no_stmt else one (masks p.iteration (returned_loop p))) in
    record {
      went = subst (λ u. Went n p s (record { way = way.Returned (resolved.worth e l); state = l }) u)
          (sym (joined_done g (made_result p e) rest s))
          (returned_went g n p (resolved.worth e l) (p.function == p.iteration) s t l refl o live
          (result_set g n p e (is_zero e) s l refl o.result live h within));
      ended = λ is other. absurd (cc);
      idle = λ is. absurd (true≢false is);
    }

-- ---- after arms and loops

-- the own mask is repaired from the loop's
pub repaired : (counted : Bool) (w : Way) (own : ℕ) → (own ≡ 1) ⊎ ((own ≡ 0) × (w ≢ way.On))
    → bit_and own (loop_of counted w) ≡ own_of w
repaired counted way.On own (inl is) = ap (λ a. bit_and a 1) is
repaired counted way.On own (inr is) = absurd (is.1 refl)
repaired counted way.Broken own (inl is) = ap (λ a. bit_and a 0) is
repaired counted way.Broken own (inr is) = ap (λ a. bit_and a 0) is.0
repaired true way.Continued own (inl is) = ap (λ a. bit_and a 0) is
repaired true way.Continued own (inr is) = ap (λ a. bit_and a 0) is.0
repaired false way.Continued own (inl is) = ap (λ a. bit_and a 2) is
repaired false way.Continued own (inr is) = ap (λ a. bit_and a 2) is.0
repaired counted (way.Returned v) own (inl is) = ap (λ a. bit_and a 0) is
repaired counted (way.Returned v) own (inr is) = ap (λ a. bit_and a 0) is.0

-- the masks of an idle part after each way but on
idle_apart : (counted : Bool) (w : Way) → w ≢ way.On → Idle (own_of w) (loop_of counted w) (function_of w)
idle_apart counted way.On other = absurd (other refl)
idle_apart counted way.Broken other = left
idle_apart true way.Continued other = left
idle_apart false way.Continued other = waits
idle_apart counted (way.Returned v) other = gone

idle_alone : (counted : Bool) (w : Way) → w ≢ way.On → Idle (loop_of counted w) (loop_of counted w) (function_of w)
idle_alone counted way.On other = absurd (other refl)
idle_alone counted way.Broken other = left
idle_alone true way.Continued other = left
idle_alone false way.Continued other = skips
idle_alone counted (way.Returned v) other = gone

pub own_word : (w : Way) → (own_of w ≡ 1) ⊎ ((own_of w ≡ 0) × (w ≢ way.On))
own_word way.On = inl refl
own_word _ = inr (refl, λ e. absurd (cc))

own_small : (w : Way) → own_of w ≢ 2
own_small way.On = omega arith
own_small _ = omega arith

-- what does not go elsewhere leaves masks that stand
pub stays_acted : (a : PlainAction) (n : ℕ) (p : PartWords) (s : State) (d : Done) (t : State) → ends a ≡ false → d.way
    ≡ way.On → Went n p s d t → Acted a n p s d t
stays_acted a n p s d t stays on h = record {
  went = h;
  ended = λ is. absurd (true≢false (sym is ∙ stays));
  idle = λ is other. absurd (other on);
}

pub on_acted : (a : PlainAction) (g : Serves) (n : ℕ) (p : PartWords) (s : State) (d : Done) (t : State) → ends a
    ≡ false → Order n p → Went n p s d t
    → Acted a n p s d (stmts_done g (made_on p) t)
on_acted a g n p s d t stays o h = by (p.own == p.iteration) refl
  where
    v : ℕ
    v = bit_and (t.frame p.own) (t.frame p.iteration)

    u : State
    u = with_slot p.own v t

    there : (x : ℕ) → x ≢ p.own → u.frame x ≡ t.frame x
    there x other = put_there p.own v x t.frame (λ e. other (sym e))

    by : (alone : Bool) → (p.own == p.iteration) ≡ alone
        → Acted a n p s d (stmts_done g (if alone then no_stmt else one (masks p.own (mask.where_on p))) t)
    by true is = let alone = eqb-true p.own p.iteration is in record {
      went = h;
      ended = λ ended. absurd (true≢false (sym ended ∙ stays));
      idle = λ ended other. record {
        own_word = loop_of p.counted d.way;
        loop_word = loop_of p.counted d.way;
        function_word = function_of d.way;
        idle = idle_alone p.counted d.way other;
        own = ap t.frame alone ∙ h.loop;
        loop = h.loop;
        function = h.function;
        alone = λ two. alone;
      };
    }
    by false is =
        let apart : p.own ≢ p.iteration = λ e. true≢false (sym (eq-eqb p.own p.iteration e) ∙ is) in
        let own : u.frame p.own ≡ own_of d.way = put_here p.own v t.frame ∙ ap (bit_and (t.frame p.own)) h.loop
        ∙ repaired p.counted d.way (t.frame p.own) (h.own apart) in
        let loop : u.frame p.iteration ≡ loop_of p.counted d.way = there p.iteration (λ e. apart (sym e)) ∙ h.loop in
        let function : u.frame p.function ≡ function_of d.way =
        there p.function (λ e. apart (omega (arith, o.loop, o.own, e))) ∙ h.function in
        record {
          went = record {
            same = still_agrees n p.own t u d.state (omega (arith, o.result, o.function, o.loop, o.own))
                (set_after p.own p.own v t (omega arith)) h.same;
            result = there p.result (omega (arith, o.function, o.loop, o.own)) ∙ h.result;
            function = function;
            loop = loop;
            own = λ other. subst (λ x. (x ≡ 1) ⊎ ((x ≡ 0) × (d.way ≢ way.On))) (sym own) (own_word d.way);
            others = λ x behind below r f q w. there x w ∙ h.others x behind below r f q w;
          };
          ended = λ ended. absurd (true≢false (sym ended ∙ stays));
          idle = λ ended other. record {
            own_word = own_of d.way;
            loop_word = loop_of p.counted d.way;
            function_word = function_of d.way;
            idle = idle_apart p.counted d.way other;
            own = own;
            loop = loop;
            function = function;
            alone = λ two. absurd (own_small d.way two);
          };
        }

-- after arms, where they go elsewhere only if one may
pub after_acted : (a : PlainAction) (g : Serves) (n : ℕ) (p : PartWords) (s : State) (d : Done) (t : State)
    (exits : Bool) → ends a ≡ false → Order n p
    → (exits ≡ false → d.way ≡ way.On) → Went n p s d t → Acted a n p s d (stmts_done g (made_after p exits) t)
after_acted a g n p s d t true stays o on h = on_acted a g n p s d t stays o h
after_acted a g n p s d t false stays o on h = stays_acted a n p s d t stays (on refl) h
