-- What the chooser picks for one row of words after another.
use Rattle.std.proofs.Common.{◌≡◌, Global, ℕ, ◌+◌, Bool, List, [], ◌∷◌, ◌++◌, length, map, Option, Some, None, replicate, refl, sym, ap, subst}
use Rattle.std.specs.Prelude.{Vec}
use Rattle.std.specs.Option.{option_map}
use Rattle.cut_words.specs.Leaving.{LeavesFrom}
use Rattle.cut_words.specs.Words.{Words, settled}
use Rattle.nfit_reader.specs.declared.table.Mapping.{Mapping}
use Rattle.power_cut.specs.Left.{Each, InTurn, IsLeftOf, LeavesOption, LeavesWords}
use Rattle.namespace_areas.specs.Seen.{areas_shown}
use Rattle.namespace_map.specs.Areas.{Area}
use Rattle.served_namespaces.specs.declared.places.OpenedNamespace.{OpenedNamespace}
use Rattle.session_account.specs.Account.{Histories}
use Rattle.session_account.specs.Survival.{Flight}
use Rattle.shell_changes.specs.Remains.{LeavesBy}
use Rattle.shell_serve.specs.Chosen.{ArenasChosen, IsChosen, LeavesArenas, LeavesTo, all_words, words_left}
use Rattle.shell_serve.specs.Saving.{LeavesOn}

in_turn_both : {C X Y : Type 0} (leaves : X → Y → C → C → Type 0) (xs vs : List X) (ys ws : List Y) (a b c : C) → InTurn leaves xs ys a b → InTurn leaves vs ws b c → InTurn leaves (xs ++ vs) (ys ++ ws) a c
in_turn_both leaves [] vs ys ws a b c (none, same) more = subst (λ zs. InTurn leaves vs (zs ++ ws) a c) (sym none) (subst (λ s. InTurn leaves vs ws s c) same more)
in_turn_both leaves (x ∷ xs) vs ys ws a b c (first, rest, between, is, here, others) more =
    (first, rest ++ ws, between, ap (λ zs. zs ++ ws) is, here, in_turn_both leaves xs vs rest ws between b c others more)

-- one more part
pub in_turn_more : {C X Y : Type 0} (leaves : X → Y → C → C → Type 0) (parts : List X) (left new : List Y) (part : X) (one : Y) (a b c : C) → new ≡ left ++ one ∷ [] → InTurn leaves parts left a b → leaves part one b c
    → InTurn leaves (parts ++ part ∷ []) new a c
in_turn_more leaves parts left new part one a b c pushed done here =
    subst (λ ys. InTurn leaves (parts ++ part ∷ []) ys a c) (sym pushed) (in_turn_both leaves parts (part ∷ []) left (one ∷ []) a b c done (one, [], c, refl, here, (refl, refl)))

-- ---- arenas, and label areas behind them

module _ {C : Type 0} (picks : C → ℕ → Bool → C → Type 0) where
  own_in_turn : (arenas : List Words) (parts : List (List ℕ)) (a b : C) → InTurn (LeavesWords picks) arenas parts a b
      → InTurn (LeavesOption picks) (map (λ (own : Words). Some own) arenas) (map (λ (part : List ℕ). Some part) parts) a b
  own_in_turn [] parts a b (none, same) = (ap (map (λ (part : List ℕ). Some part)) none, same)
  own_in_turn (arena ∷ arenas) parts a b (first, rest, between, is, here, more) =
      (Some first, map (λ (part : List ℕ). Some part) rest, between, ap (map (λ (part : List ℕ). Some part)) is, (first, refl, here), own_in_turn arenas rest between b more)

  pub all_in_turn : (arenas : List (Vec Words Global)) (parts : List (List (List ℕ))) (a b : C) → InTurn (LeavesArenas picks) arenas parts a b
      → InTurn (LeavesOption picks) (all_words (map (λ (own : Vec Words Global). own.items) arenas)) (words_left parts) a b
  all_in_turn [] parts a b (none, same) = (ap words_left none, same)
  all_in_turn (own ∷ arenas) parts a b (first, rest, between, is, here, more) =
      subst (λ (ps : List (List (List ℕ))). InTurn (LeavesOption picks) (all_words (map (λ (v : Vec Words Global). v.items) (own ∷ arenas))) (words_left ps) a b) (sym is)
      (in_turn_both (LeavesOption picks) (map (λ (w : Words). Some w) own.items) (all_words (map (λ (v : Vec Words Global). v.items) arenas)) (map (λ (part : List ℕ). Some part) first) (words_left rest) a between b
      (own_in_turn own.items first a between here) (all_in_turn arenas rest between b more))

  pub joined : (begins : C → ℕ → C → Type 0) (choose between : C) (seed : ℕ) (words pending : List (Option Words)) (left labels : List (Option (List ℕ))) → LeavesTo begins picks choose seed between words left
      → LeavesOn picks between pending labels → LeavesBy begins picks choose seed (words ++ pending) (left ++ labels)
  joined begins choose between seed words pending left labels (begun, is, first) (after, more) =
      (begun, after, is, in_turn_both (LeavesOption picks) words pending left labels begun between after first more)

pub all_chosen : (leaves first behind : List (Option Words) → List (Option (List ℕ)) → Type 0)
    → ((words pending : List (Option Words)) (left labels : List (Option (List ℕ))) → first words left → behind pending labels → leaves (words ++ pending) (left ++ labels))
    → (Hold : List (Option Words) → Type 0) (IsDue : List (Option Area) → Type 0) (sets : List (List Mapping)) (opened : List OpenedNamespace) (histories : Histories) (flights : ℕ → ℕ → List Flight) (now : List Words) (pending : List (Option Words))
    (labels : List (Option (List ℕ))) → ArenasChosen first sets opened histories flights now → behind pending labels → Hold pending → ((rows : List (Option (List ℕ))) → Each IsLeftOf pending rows → IsDue (areas_shown rows))
    → IsChosen leaves Hold IsDue sets opened histories flights now labels
all_chosen leaves first behind join Hold IsDue sets opened histories flights now pending labels arenas own hold due = record {
  pending = pending;
  hold = hold;
  due = due;
  arenas = record {
    words = arenas.words;
    parts = arenas.parts;
    words_count = arenas.words_count;
    parts_count = arenas.parts_count;
    each = arenas.each;
    chosen = join (all_words arenas.words) pending (words_left arenas.parts) labels arenas.chosen own;
  };
}

-- ---- words of which none is pending: the chooser isn't asked

module _ {C : Type 0} (picks : C → ℕ → Bool → C → Type 0) where
  none_asked : (i : ℕ) (values : List ℕ) (c : C) → LeavesFrom picks i values (replicate (length values) None) values c c
  none_asked i [] c = (refl, refl)
  none_asked i (v ∷ vs) c = (v, c, (refl, refl), (vs, refl, none_asked (i + 1) vs c))

  pub settled_in_turn : (rows : List (Option (List ℕ))) (c : C) → InTurn (LeavesOption picks) (map (option_map settled) rows) rows c c
  settled_in_turn [] c = (refl, refl)
  settled_in_turn (None ∷ rows) c = (None, rows, c, refl, (refl, refl), settled_in_turn rows c)
  settled_in_turn (Some values ∷ rows) c = (Some values, rows, c, refl, (values, refl, none_asked 0 values c), settled_in_turn rows c)
