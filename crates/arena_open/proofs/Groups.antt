-- Reading the lanes of an arena one by one.
use Rattle.std.proofs.Common.{◌≡◌, ℕ, suc, false, ◌+◌, ◌-◌, ◌<◌, ◌≤◌, List, [], ◌∷◌, ◌++◌, Result, Ok, Err, refl, sym, ap, ◌∙◌, append_assoc, arith}
use Rattle.std.specs.Prelude.{OnOk}
use Rattle.std.specs.Result.{is_err}
use Rattle.std.specs.List.{range_with_len}
use Rattle.std.proofs.lemmas.List.{append-nil}
use Rattle.flog.specs.declared.group.Group.{Group}
use Rattle.flog.specs.declared.group.FlogFault.{FlogFault}
use Rattle.flog.specs.Group.{group_reading}
use Rattle.arena_layout.specs.declared.layout.Layout.{Layout}
use Rattle.arena_open.specs.declared.refused.OpenRefused.{OpenRefused}
use Rattle.arena_open.specs.declared.refused.OpenRefused.TheVariants as refused
use Rattle.arena_open.specs.Places.{group_words}
use Rattle.arena_open.specs.Reading.{with_group, groups_of, groups_in}

-- groups in front of those still to be read
abbrev pub with_front : List Group → Result (List Group) OpenRefused → Result (List Group) OpenRefused
with_front front (Err fault) = Err fault
with_front front (Ok groups) = Ok (front ++ groups)

abbrev ok_of : List Group → Result (List Group) OpenRefused
ok_of groups = Ok groups

front_none : (r : Result (List Group) OpenRefused) → r ≡ with_front [] r
front_none (Err fault) = refl
front_none (Ok groups) = refl

front_more : (front : List Group) (lane : ℕ) (group : Group) (r : Result (List Group) OpenRefused) → with_front front (with_group lane (Ok group) r) ≡ with_front (front ++ group ∷ []) r
front_more front lane group (Err fault) = refl
front_more front lane group (Ok groups) = ap ok_of (sym (append_assoc front (group ∷ []) groups))

one_less : (a b : ℕ) → a < b → b - a ≡ suc (b - (a + 1))
one_less a b lt = omega arith

module _ (l : Layout) (words : List ℕ) where
  abbrev pub from_lane : ℕ → ℕ → Result (List Group) OpenRefused
  from_lane lane top = groups_of l words (range_with_len lane (top - lane))

  pub lanes_start : groups_in l words ≡ with_front [] (from_lane 0 l.lanes)
  lanes_start = front_none (groups_in l words) ∙ ap (λ (n : ℕ). with_front [] (groups_of l words (range_with_len 0 n))) (let e : l.lanes ≡ l.lanes - 0 = omega arith in e)

  lanes_split : (lane top : ℕ) → lane < top
      → from_lane lane top ≡ with_group lane (group_reading (group_words l words lane) l.external l.internal) (from_lane (lane + 1) top)
  lanes_split lane top lt = ap (λ (n : ℕ). groups_of l words (range_with_len lane n)) (one_less lane top lt)

  pub lanes_on : (front more : List Group) (lane top : ℕ) (group : Group) → lane < top → groups_in l words ≡ with_front front (from_lane lane top)
      → Ok group ≡ group_reading (group_words l words lane) l.external l.internal → more ≡ front ++ group ∷ [] → groups_in l words ≡ with_front more (from_lane (lane + 1) top)
  lanes_on front more lane top group lt was read is =
      was ∙ ap (with_front front) (lanes_split lane top lt ∙ ap (λ (r : Result Group FlogFault). with_group lane r (from_lane (lane + 1) top)) (sym read))
      ∙ front_more front lane group (from_lane (lane + 1) top) ∙ ap (λ (gs : List Group). with_front gs (from_lane (lane + 1) top)) (sym is)

  pub lanes_stop : (front : List Group) (lane top : ℕ) (fault : FlogFault) → lane < top → groups_in l words ≡ with_front front (from_lane lane top)
      → Err fault ≡ group_reading (group_words l words lane) l.external l.internal → Err (refused.Flog lane fault) ≡ groups_in l words
  lanes_stop front lane top fault lt was read =
      sym (was ∙ ap (with_front front) (lanes_split lane top lt ∙ ap (λ (r : Result Group FlogFault). with_group lane r (from_lane (lane + 1) top)) (sym read)))

  pub lanes_end : (front : List Group) (lane top : ℕ) → top ≤ lane → groups_in l words ≡ with_front front (from_lane lane top) → Ok front ≡ groups_in l words
  lanes_end front lane top le was =
      sym (was ∙ ap (λ (n : ℕ). with_front front (groups_of l words (range_with_len lane n))) (let e : top - lane ≡ 0 = omega arith in e)
      ∙ ap ok_of (append-nil front))

-- the clause of a push that succeeded
pub pushed : {E : Type 0} (r : Result (Unit {0}) E) (P : Type 0) → false ≡ is_err r → OnOk r P → P
pushed (Ok u) P e holds = holds
pushed (Err x) P e holds = absurd (let f = e in cc)
