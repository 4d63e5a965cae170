-- Which moves are pending; their numbers are within the arena.
use Rattle.std.proofs.Common.{◌≡◌, ◌≢◌, ℕ, suc, ◌^◌, ◌<◌, ◌≤◌, Bool, true, false, not, cond, eqb, leb, List, [], ◌∷◌, length, get_or, Option, Some, None, Result, Ok, Err, refl, sym, ap, subst, arith}
use Rattle.std.specs.Prelude.{◌&&◌}
use Rattle.std.specs.List.{All}
use Rattle.std.specs.Option.{option_map}
use Rattle.std.proofs.lemmas.Bool.{and_parts, leb-false, eqb-false, ne_eqb}
use Rattle.std.proofs.lemmas.List.Elements.{All-nil, All-cons, All-head, All-tail}
use Rattle.nvd_words.specs.Checks.{first_fault, fault_if, value_unless}
use Rattle.flog.specs.declared.half.Half.{Half}
use Rattle.flog.specs.declared.group.Group.{Group}
use Rattle.flog.specs.declared.group.FlogFault.{FlogFault}
use Rattle.flog.specs.declared.group.FlogFault.TheVariants.{Padding, Sequences, Range}
use Rattle.flog.specs.Group.{is_padded, are_ordered, half_in, out_of_range, group_in, group_reading}
use Rattle.map_table.specs.Entry.{entry_of}
use Rattle.arena_layout.specs.declared.layout.Layout.{Layout}
use Rattle.arena_open.specs.declared.refused.OpenRefused.{OpenRefused}
use Rattle.arena_open.specs.Places.{group_words}
use Rattle.arena_open.specs.Halves.{IsMove, IsInRange, AreInRange, AreMoves}
use Rattle.arena_open.specs.Reading.{with_group, groups_of, is_pending, moves_of}

-- ---- facts about a group that was read

last_passed : {A F : Type 0} (v w : A) (o p q : Option F) → value_unless v (first_fault (o ∷ p ∷ q ∷ [])) ≡ Ok w → (q ≡ None) × (v ≡ w)
unfolding first_fault
last_passed v w (Some f) p q e = cc
last_passed v w None (Some f) q e = cc
last_passed v w None None (Some f) e = cc
last_passed v w None None None e = (refl, cc)

unmapped : {A B : Type 0} (f : A → B) (o : Option A) → option_map f o ≡ None → o ≡ None
unmapped f None e = refl
unmapped f (Some x) e = cc

all_pass : (b1 b2 b3 : Bool) (x y z : ℕ) → cond b1 (Some x) (cond b2 (Some y) (cond b3 (Some z) None)) ≡ None → (b1 ≡ false) × (b2 ≡ false) × (b3 ≡ false)
all_pass true b2 b3 x y z e = cc
all_pass false true b3 x y z e = cc
all_pass false false true x y z e = cc
all_pass false false false x y z e = (refl, refl, refl)

pub record HalfFits (external internal : ℕ) (half : Half) : Type 0 where
  pub old : half.old < internal
  pub new : half.new < internal
  pub lba : half.old ≢ half.new → half.lba < external

none_out : (external internal : ℕ) (half : Half) → out_of_range external internal half ≡ None → HalfFits external internal half
unfolding out_of_range
none_out external internal half e =
    let p = all_pass (leb internal half.old) (leb internal half.new) (not (eqb half.old half.new) && leb external half.lba) half.old half.new half.lba e in
    record {
      old = leb-false internal half.old p.0;
      new = leb-false internal half.new p.1;
      lba = λ ne. leb-false external half.lba (rw (ne_eqb half.old half.new ne) at p.2);
    }

pub half_fits : (words : List ℕ) (external internal : ℕ) (group : Group) → group_reading words external internal ≡ Ok group → HalfFits external internal group.half
half_fits words external internal group e =
    let p = last_passed (group_in words) group (fault_if (not (is_padded words)) Padding)
    (fault_if (not (are_ordered (half_in words 0).seq (half_in words 1).seq)) (Sequences (half_in words 0).seq (half_in words 1).seq))
    (option_map Range (out_of_range external internal (group_in words).half)) e in
    subst (λ (k : Group). HalfFits external internal k.half) p.1
    (none_out external internal (group_in words).half (unmapped Range (out_of_range external internal (group_in words).half) p.0))

-- ---- all groups

-- a group and the others were read
record Split (lane : ℕ) (first : Result Group FlogFault) (others : Result (List Group) OpenRefused) (groups : List Group) : Type 0 where
  head : Group
  tail : List Group
  head_is : first ≡ Ok head
  tail_is : others ≡ Ok tail
  is : groups ≡ head ∷ tail

split : (lane : ℕ) (first : Result Group FlogFault) (others : Result (List Group) OpenRefused) (groups : List Group) → with_group lane first others ≡ Ok groups → Split lane first others groups
split lane (Err f) others groups e = absurd (let h = e in cc)
split lane (Ok g) (Err f) groups e = absurd (let h = e in cc)
split lane (Ok g) (Ok gs) groups e = record { head = g; tail = gs; head_is = refl; tail_is = refl; is = cc }

pub record Groups (l : Layout) (lanes : List ℕ) (groups : List Group) : Type 0 where
  pub count : length groups ≡ length lanes
  pub fit : All (λ group. HalfFits l.external l.internal group.half) groups

groups_by : (l : Layout) (words : List ℕ) (lanes : List ℕ) (groups : List Group) → groups_of l words lanes ≡ Ok groups → Groups l lanes groups
groups_by l words [] groups e =
    let is : groups ≡ [] = cc in
    subst (λ (gs : List Group). Groups l [] gs) (sym is) (record { count = refl; fit = All-nil (λ group. HalfFits l.external l.internal group.half) })
groups_by l words (lane ∷ lanes) groups e =
    let s = split lane (group_reading (group_words l words lane) l.external l.internal) (groups_of l words lanes) groups e in
    let others = groups_by l words lanes s.tail s.tail_is in
    subst (λ (gs : List Group). Groups l (lane ∷ lanes) gs) (sym s.is) (record {
      count = ap suc others.count;
      fit = All-cons (λ group. HalfFits l.external l.internal group.half) s.head s.tail (half_fits (group_words l words lane) l.external l.internal s.head s.head_is) others.fit;
    })

pub groups_fit : (l : Layout) (words : List ℕ) (lanes : List ℕ) (groups : List Group) → groups_of l words lanes ≡ Ok groups → Groups l lanes groups
groups_fit l words lanes groups e = groups_by l words lanes groups e

pub in_range : (external internal : ℕ) (groups : List Group) → internal ≤ 2 ^ 30 → All (λ group. HalfFits external internal group.half) groups → AreInRange external groups
in_range external internal groups few fit = λ k d lt ne. record { sector = (fit k d lt).lba ne; block = omega (arith, (fit k d lt).new) }

-- ---- pending moves

pub pending_differs : (entries : List ℕ) (half : Half) → is_pending entries half ≡ true → half.old ≢ half.new
pending_differs entries half e =
    let p = and_parts (not (eqb half.old half.new)) (eqb (entry_of (get_or entries half.lba 0) half.lba).block half.old) e in
    by_test (eqb half.old half.new) refl p.0
  where
    by_test : (b : Bool) → eqb half.old half.new ≡ b → not b ≡ true → half.old ≢ half.new
    by_test true t n = absurd (let h = n in cc)
    by_test false t n = eqb-false half.old half.new t

moves_by : (n : ℕ) (entries : List ℕ) (group : Group) (groups : List Group) (b : Bool) → is_pending entries group.half ≡ b → IsInRange n group.half → AreMoves n (moves_of entries groups)
    → AreMoves n (cond b (group.half ∷ moves_of entries groups) (moves_of entries groups))
moves_by n entries group groups true e fits others = All-cons (IsMove n) group.half (moves_of entries groups) (fits (pending_differs entries group.half e)) others
moves_by n entries group groups false e fits others = others

-- the numbers of pending moves are within the arena
pub moves_fit : (n : ℕ) (entries : List ℕ) (groups : List Group) → AreInRange n groups → AreMoves n (moves_of entries groups)
moves_fit n entries [] fit = All-nil (IsMove n)
moves_fit n entries (group ∷ groups) fit =
    moves_by n entries group groups (is_pending entries group.half) refl (All-head (λ g. IsInRange n g.half) group groups fit)
    (moves_fit n entries groups (All-tail (λ g. IsInRange n g.half) group groups fit))

few_by : (entries : List ℕ) (group : Group) (groups : List Group) (b : Bool) → length (moves_of entries groups) ≤ length groups
    → length (cond b (group.half ∷ moves_of entries groups) (moves_of entries groups)) ≤ suc (length groups)
few_by entries group groups true le = omega arith
few_by entries group groups false le = omega arith

pub moves_few : (entries : List ℕ) (groups : List Group) → length (moves_of entries groups) ≤ length groups
moves_few entries [] = omega arith
moves_few entries (group ∷ groups) = few_by entries group groups (is_pending entries group.half) (moves_few entries groups)
