-- Words without pending ones after a crash, and a set with one changed label area.
use Rattle.std.proofs.Common.{◌≡◌, ℕ, zero, suc, ◌+◌, ◌<◌, Bool, List, [], ◌∷◌, length, map, get_or, replicate, Option, Some, None, refl, sym, ap, ◌∙◌, subst, arith}
use Rattle.std.proofs.Math.ListN.{set}
use Rattle.std.specs.Option.{option_map}
use Rattle.std.specs.List.{All}
use Rattle.std.proofs.lemmas.List.{get_or-set_same, length-set}
use Rattle.std.proofs.lemmas.List.Elements.{All-head, All-tail}
use Rattle.cut_words.specs.Words.{Words, IsLeft, settled}
use Rattle.cut_words.specs.Leaving.{LeavesFrom}
use Rattle.power_cut.specs.Left.{Each, InTurn, IsLeftOf, LeavesOption, LeavesWords}

-- words without pending ones are unchanged, and the chooser isn't asked
kept_from : {C : Type 0} (picks : C → ℕ → Bool → C → Type 0) (kept : List ℕ) (i : ℕ) (left : List ℕ) (before after : C)
    → LeavesFrom picks i kept (replicate (length kept) None) left before after → (left ≡ kept) × (after ≡ before)
kept_from picks [] i left before after leaves = leaves
kept_from picks (k ∷ ks) i left before after leaves =
    let rest = kept_from picks ks (i + 1) leaves.3.0 leaves.1 after leaves.3.2 in
    (leaves.3.1 ∙ ap (λ v. v ∷ leaves.3.0) leaves.2.0 ∙ ap (λ r. k ∷ r) rest.0, rest.1 ∙ leaves.2.1)

pub kept_row : {C : Type 0} (picks : C → ℕ → Bool → C → Type 0) (words : Words) (left : List ℕ) (before after : C) → words ≡ settled words.kept
    → LeavesWords picks words left before after → (left ≡ words.kept) × (after ≡ before)
kept_row picks words left before after is leaves =
    kept_from picks words.kept 0 left before after (subst (λ w. LeavesFrom picks 0 w.kept w.stored left before after) is leaves)

abbrev pub IsSettled : Words → Type 0
IsSettled words = words ≡ settled words.kept

abbrev pub kept_in : Words → List ℕ
kept_in words = words.kept

pub kept_rows : {C : Type 0} (picks : C → ℕ → Bool → C → Type 0) (rows : List Words) (left : List (List ℕ)) (before after : C) → All IsSettled rows
    → InTurn (LeavesWords picks) rows left before after → (left ≡ map kept_in rows) × (after ≡ before)
kept_rows picks [] left before after all turn = turn
kept_rows picks (row ∷ rows) left before after all turn =
    let here = kept_row picks row turn.0 before turn.2 (All-head IsSettled row rows all) turn.4 in
    let rest = kept_rows picks rows turn.1 turn.2 after (All-tail IsSettled row rows all) turn.5 in
    (turn.3 ∙ ap (λ v. v ∷ turn.1) here.0 ∙ ap (λ r. row.kept ∷ r) rest.0, rest.1 ∙ here.1)

-- the same for a label area that may be missing
abbrev pub AreaSettled : Option Words → Type 0
AreaSettled area = (words : Words) → area ≡ Some words → IsSettled words

kept_option : {C : Type 0} (picks : C → ℕ → Bool → C → Type 0) (area : Option Words) (left : Option (List ℕ)) (before after : C) → AreaSettled area
    → LeavesOption picks area left before after → (left ≡ option_map kept_in area) × (after ≡ before)
kept_option picks None left before after is leaves = leaves
kept_option picks (Some words) left before after is leaves =
    let row = kept_row picks words leaves.0 before after (is words refl) leaves.2 in
    (leaves.1 ∙ ap (λ r. Some r) row.0, row.1)

pub kept_areas : {C : Type 0} (picks : C → ℕ → Bool → C → Type 0) (areas : List (Option Words)) (left : List (Option (List ℕ))) (before after : C) → All AreaSettled areas
    → InTurn (LeavesOption picks) areas left before after → (left ≡ map (option_map kept_in) areas) × (after ≡ before)
kept_areas picks [] left before after all turn = turn
kept_areas picks (area ∷ areas) left before after all turn =
    let here = kept_option picks area turn.0 before turn.2 (All-head AreaSettled area areas all) turn.4 in
    let rest = kept_areas picks areas turn.1 turn.2 after (All-tail AreaSettled area areas all) turn.5 in
    (turn.3 ∙ ap (λ v. v ∷ turn.1) here.0 ∙ ap (λ r. option_map kept_in area ∷ r) rest.0, rest.1 ∙ here.1)

-- ---- one label area that is changed

-- the chooser is asked only for that area
pub record OneLeft {C : Type 0} (picks : C → ℕ → Bool → C → Type 0) (areas : List (Option Words)) (m : ℕ) (words : Words) (left : List (Option (List ℕ))) (before after : C) : Type 0 where
  pub row : List ℕ
  pub asked : LeavesWords picks words row before after
  pub is : left ≡ set (map (option_map kept_in) areas) m (Some row)

pub one_left : {C : Type 0} (picks : C → ℕ → Bool → C → Type 0) (areas : List (Option Words)) (m : ℕ) (words : Words) (left : List (Option (List ℕ))) (before after : C) → m < length areas
    → All AreaSettled areas → InTurn (LeavesOption picks) (set areas m (Some words)) left before after → OneLeft picks areas m words left before after
one_left picks [] m words left before after lt all turn = absurd (omega arith)
one_left picks (area ∷ areas) zero words left before after lt all turn =
    let rest = kept_areas picks areas turn.1 turn.2 after (All-tail AreaSettled area areas all) turn.5 in
    record {
      row = turn.4.0;
      asked = subst (λ c. LeavesWords picks words turn.4.0 before c) (sym rest.1) turn.4.2;
      is = turn.3 ∙ ap (λ v. v ∷ turn.1) turn.4.1 ∙ ap (λ r. Some turn.4.0 ∷ r) rest.0;
    }
one_left picks (area ∷ areas) (suc m) words left before after lt all turn =
    let here = kept_option picks area turn.0 before turn.2 (All-head AreaSettled area areas all) turn.4 in
    let rest = one_left picks areas m words turn.1 turn.2 after (omega arith) (All-tail AreaSettled area areas all) turn.5 in
    record {
      row = rest.row;
      asked = subst (λ c. LeavesWords picks words rest.row c after) here.1 rest.asked;
      is = turn.3 ∙ ap (λ v. v ∷ turn.1) here.0 ∙ ap (λ r. option_map kept_in area ∷ r) rest.is;
    }

-- each word of the area has, independently, its kept value or the one that a load returns
each_at : {X Y : Type 0} (leaves : X → Y → Type 0) (parts : List X) (left : List Y) (i : ℕ) (d : X) (e : Y) → i < length parts → Each leaves parts left → leaves (get_or parts i d) (get_or left i e)
each_at leaves [] left i d e lt each = absurd (omega arith)
each_at leaves (x ∷ parts) left zero d e lt each = rw each.2 each.3
each_at leaves (x ∷ parts) left (suc i) d e lt each = rw each.2 (each_at leaves parts each.1 i d e (omega arith) each.4)

row_left : (words : Words) (row : List ℕ) → IsLeftOf (Some words) (Some row) → IsLeft words row
row_left words row is = let same : row ≡ is.0 = (let e = is.1 in cc) in subst (λ r. IsLeft words r) (sym same) is.2

length_each : {X Y : Type 0} (leaves : X → Y → Type 0) (parts : List X) (left : List Y) → Each leaves parts left → length left ≡ length parts
length_each leaves [] left each = ap length each
length_each leaves (x ∷ parts) left each = ap length each.2 ∙ ap suc (length_each leaves parts each.1 each.4)

pub one_is_left : (areas : List (Option Words)) (m : ℕ) (words : Words) (row : List ℕ) (left : List (Option (List ℕ))) → m < length areas → left ≡ set (map (option_map kept_in) areas) m (Some row)
    → Each IsLeftOf (set areas m (Some words)) left → IsLeft words row
one_is_left areas m words row left lt is each =
    let inside : m < length (set areas m (Some words)) = omega (arith, length-set areas m (Some words)) in
    let long : length left ≡ length areas = length_each IsLeftOf (set areas m (Some words)) left each ∙ length-set areas m (Some words) in
    let here = each_at IsLeftOf (set areas m (Some words)) left m None None inside each in
    let there : m < length (map (option_map kept_in) areas) = omega (arith, long, ap length is ∙ length-set (map (option_map kept_in) areas) m (Some row)) in
    row_left words row
    (subst (λ o. IsLeftOf o (Some row)) (get_or-set_same areas m (Some words) None lt)
    (subst (λ o. IsLeftOf (get_or (set areas m (Some words)) m None) o) (ap (λ xs. get_or xs m None) is ∙ get_or-set_same (map (option_map kept_in) areas) m (Some row) None there) here))

pub each_length : {X Y : Type 0} (leaves : X → Y → Type 0) (parts : List X) (left : List Y) → Each leaves parts left → length left ≡ length parts
each_length = length_each
