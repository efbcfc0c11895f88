-- Packets of two entries ever meet exactly where their entries use one link in one slot of the period.
use Rattle.std.proofs.Common.{◌≡◌, ℕ, ◌+◌, ◌*◌, ◌/◌, ◌%◌, ◌≤◌, true, ◌↔◌, sym, ap, ◌∙◌, arith}
use Rattle.std.proofs.Math.Nat.{add-mul-mod_self_right, mul-div_cancel}
use Rattle.std.proofs.lemmas.Nat.{div-add-mod'}
use Rattle.argo_grid.specs.declared.grid.Entry.{Entry}
use Rattle.argo_grid.specs.declared.route.Link.{Link}
use Rattle.argo_grid.specs.Route.{links_for, route}
use Rattle.argo_grid.specs.Schedule.{Schedule}
use Rattle.argo_grid.specs.Packet.{Uses, Meet}
use Rattle.argo_grid.specs.Check.{MeetIn, shares}
use Rattle.argo_grid.proofs.Sharing.{shares_exactly}
use Rattle.argo_grid.proofs.Ways.{one_place}

-- packets that use a link in one cycle use it in one slot
one_slot : (s : Schedule) (e other : Entry) (j k : ℕ) (link : Link) (cycle : ℕ) (u : Uses s e j link cycle)
    (v : Uses s other k link cycle) → e.slot + j * s.length + u.place ≡ other.slot + k * s.length + v.place
one_slot s e other j k link cycle u v = omega (arith, u.from, u.until, v.from, v.until)

meeting_together : (s : Schedule) (e other : Entry) → Meet s e other
    → MeetIn s.length e.slot (links_for s.grid e) other.slot (links_for s.grid other)
meeting_together s e other m =
    let slot = one_slot s e other m.packet m.other_packet m.link m.cycle m.uses m.other_uses in
    record {
      place = m.uses.place;
      other_place = m.other_uses.place;
      link = m.link;
      here = m.uses.here;
      there = m.other_uses.here;
      together =
          sym (add-mul-mod_self_right (e.slot + m.uses.place) m.packet s.length)
          ∙ ap (λ n. n % s.length) (let same : e.slot + m.uses.place + m.packet * s.length
          ≡ other.slot + m.other_uses.place + m.other_packet * s.length = omega (arith, slot) in same)
          ∙ add-mul-mod_self_right (other.slot + m.other_uses.place) m.other_packet s.length;
    }

together_meeting : (s : Schedule) (e other : Entry) → MeetIn s.length e.slot (links_for s.grid e) other.slot
    (links_for s.grid other) → Meet s e other
together_meeting s e other m =
    let first : ℕ = e.slot + m.place in
    let second : ℕ = other.slot + m.other_place in
    let one = div-add-mod' first s.length in
    let two = div-add-mod' second s.length in
    let same : first + second / s.length * s.length ≡ second + first / s.length * s.length =
    omega (arith, one, two, m.together) in
    record {
      packet = second / s.length;
      other_packet = first / s.length;
      link = m.link;
      cycle = 3 * (first + second / s.length * s.length);
      uses = record { place = m.place; here = m.here; from = omega arith; until = omega arith };
      other_uses =
          record { place = m.other_place; here = m.there; from = omega (arith, same); until = omega (arith, same) };
    }

pub meet_exactly : (s : Schedule) (e other : Entry) → (shares s e other ≡ true) ↔ Meet s e other
meet_exactly s e other = (
  (λ shared. together_meeting s e other ((shares_exactly s e other).0 shared)),
  (λ meet. (shares_exactly s e other).1 (meeting_together s e other meet)),
)

pub turned : (s : Schedule) (e other : Entry) → Meet s e other → Meet s other e
turned s e other m = record {
  packet = m.other_packet;
  other_packet = m.packet;
  link = m.link;
  cycle = m.cycle;
  uses = m.other_uses;
  other_uses = m.uses;
}

-- two packets of one entry that use one link in one cycle are one packet
pub one_packet : (s : Schedule) (e : Entry) (j k : ℕ) (link : Link) (cycle : ℕ) → 1 ≤ s.length → Uses s e j link cycle
    → Uses s e k link cycle → j ≡ k
one_packet s e j k link cycle some u v =
    let place : u.place ≡ v.place = one_place (route s.grid e.from e.to) u.place v.place link u.here v.here in
    let slot = one_slot s e e j k link cycle u v in
    times_equal j k s.length some (omega (arith, slot, place))
  where
    times_equal : (a b n : ℕ) → 1 ≤ n → a * n ≡ b * n → a ≡ b
    times_equal a b n least same = sym (mul-div_cancel a least) ∙ ap (λ m. m / n) same ∙ mul-div_cancel b least
