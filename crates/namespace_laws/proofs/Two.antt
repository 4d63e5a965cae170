-- Changing a list of labels in two stages: what create, delete and rename have in common.
use Rattle.std.proofs.Common.{◌≡◌, ℕ, zero, suc, ◌<◌, ◌≤◌, Bool, true, false, List, [], ◌∷◌, ◌++◌, length, take, get_or, Option, Some, refl, sym, ap, ◌∙◌, subst, arith, inl, inr}
use Rattle.std.proofs.Math.ListN.{length-set}
use Rattle.std.specs.Prelude.{map}
use Rattle.std.specs.List.{AllByRecursion}
use Rattle.std.proofs.lemmas.Bool.{cases_lt}
use Rattle.std.proofs.lemmas.List.{take_all, append-nil}
use Rattle.label_codec.specs.declared.label.Label.{Label}
use Rattle.namespace_map.specs.Areas.{Area, Change, changed_areas, after_steps, all_changed}
use Rattle.namespace_map.specs.Changes.{change_to, in_two}
use Rattle.namespace_map.specs.CommandLaws.{IsOf}
use Rattle.namespace_map.proofs.Areas.{Proper, HasRoom, Fitting, moved_all, proper_after, moved_keeps, all_of_front}
use Rattle.namespace_map.proofs.Rising.{all_pass_to}
use Rattle.namespace_laws.proofs.Whole.{all_append, AllLab}
use Rattle.namespace_laws.proofs.Staged.{in_two_many, front_of_two, FrontOfTwo, Apart, names, not_before, named_in_front, moved_hit, moved_miss, unnamed, IsGiven, KeepsUuid, stage_fits, moved_all_append, all_map}
use Rattle.namespace_map.proofs.Fronts.{cut_is_front, IsFront}

pub length_kept : (cs : List Change) (areas : List (Option Area)) → length (all_changed areas cs) ≡ length areas
unfolding all_changed
length_kept [] areas = refl
length_kept (e ∷ cs) areas = length_kept cs (changed_areas areas e) ∙ length-set areas e.number _

-- a property that holds before, and of each new label, holds after
pub lab_keeps : (Q : ℕ → Label → Type 0) (f : Label → Option Label) (ps : List (ℕ × Label)) (lab : ℕ → Option Label) → AllLab Q lab
    → AllByRecursion (λ p. (l : Label) → f p.1 ≡ Some l → Q p.0 l) ps → AllLab Q (moved_all lab (map (change_to f) ps))
lab_keeps Q f ps lab before each m l is =
    moved_keeps (λ n o. (k : Label) → o ≡ Some k → Q n k) (map (change_to f) ps) lab before (all_map (λ c. (k : Label) → c.label ≡ Some k → Q c.number k) (change_to f) ps each) m l is

module _ (uuid : List ℕ) (areas : List (Option Area)) (lab : ℕ → Option Label) (ps : List (ℕ × Label)) (d : ℕ × Label) (f g : Label → Option Label)
    (keeps_f : KeepsUuid f) (keeps_g : KeepsUuid g)
    (proper : Proper uuid lab areas) (given : AllByRecursion (IsGiven uuid lab areas) ps) (apart : Apart ps) (many : 2 ≤ length ps) where
  abbrev pub two_changes : List Change
  two_changes = in_two f g ps

  -- after k changes of the first stage
  abbrev pub lab_one : ℕ → ℕ → Option Label
  lab_one k = moved_all lab (map (change_to f) (take k ps))

  abbrev pub areas_one : ℕ → List (Option Area)
  areas_one k = all_changed areas (map (change_to f) (take k ps))

  fit_one : (k : ℕ) → Fitting uuid lab areas (map (change_to f) (take k ps))
  fit_one k = stage_fits uuid lab areas f keeps_f (take k ps) (all_of_front (IsGiven uuid lab areas) k ps given)

  pub proper_one : (k : ℕ) → Proper uuid (lab_one k) (areas_one k)
  proper_one k = proper_after (map (change_to f) (take k ps)) uuid lab areas proper (fit_one k)

  abbrev pub at : ℕ → ℕ
  at i = (get_or ps i d).0

  pub all_taken : take (length ps) ps ≡ ps
  all_taken = take_all (length ps) ps (omega arith)

  -- after the first stage and j changes of the second
  abbrev pub both : ℕ → List Change
  both j = map (change_to f) (take (length ps) ps) ++ map (change_to g) (take j ps)

  abbrev pub lab_two : ℕ → ℕ → Option Label
  lab_two j = moved_all (lab_one (length ps)) (map (change_to g) (take j ps))

  abbrev pub areas_two : ℕ → List (Option Area)
  areas_two j = all_changed areas (both j)

  pub proper_two : (j : ℕ) → Proper uuid (lab_two j) (areas_two j)
  proper_two j =
      subst (λ (h : ℕ → Option Label). Proper uuid h (areas_two j)) (moved_all_append (map (change_to f) (take (length ps) ps)) (map (change_to g) (take j ps)) lab)
      (proper_after (both j) uuid lab areas proper
      (all_append (λ c. IsOf uuid c × HasRoom lab areas c.number) (map (change_to f) (take (length ps) ps)) (map (change_to g) (take j ps)) (fit_one (length ps))
      (stage_fits uuid lab areas g keeps_g (take j ps) (all_of_front (IsGiven uuid lab areas) j ps given))))

  -- a named module is among the areas
  pub there_one : (k m : ℕ) → names ps m ≡ true → m < length (areas_one k)
  there_one k m named =
      rw (length_kept (map (change_to f) (take k ps)) areas)
      (moved_hit (λ n o. n < length areas) f ps lab m named (all_pass_to (IsGiven uuid lab areas) (λ p. p.0 < length areas) (λ p h. h.1.there) ps given))

  pub there_two : (j m : ℕ) → names ps m ≡ true → m < length (areas_two j)
  there_two j m named =
      rw (length_kept (both j) areas)
      (moved_hit (λ n o. n < length areas) f ps lab m named (all_pass_to (IsGiven uuid lab areas) (λ p. p.0 < length areas) (λ p h. h.1.there) ps given))

  pub named_at : (i : ℕ) → i < length ps → names ps (at i) ≡ true
  named_at i below = ap (λ (qs : List (ℕ × Label)). names qs (at i)) (sym all_taken) ∙ named_in_front ps i (length ps) d below below

  -- the label at a place of the list: changed or not yet
  pub hit_one : (P : ℕ → Option Label → Type 0) → AllByRecursion (λ p. P p.0 (f p.1)) ps → (k m : ℕ) → names (take k ps) m ≡ true → P m (lab_one k m)
  hit_one P each k m named = moved_hit P f (take k ps) lab m named (all_of_front (λ p. P p.0 (f p.1)) k ps each)

  pub hit_two : (P : ℕ → Option Label → Type 0) → AllByRecursion (λ p. P p.0 (g p.1)) ps → (j m : ℕ) → names (take j ps) m ≡ true → P m (lab_two j m)
  hit_two P each j m named = moved_hit P g (take j ps) (lab_one (length ps)) m named (all_of_front (λ p. P p.0 (g p.1)) j ps each)

  pub miss_one : (k m : ℕ) → names (take k ps) m ≡ false → lab_one k m ≡ lab m
  miss_one k m e = moved_miss f (take k ps) lab m (unnamed (take k ps) m e)

  pub miss_two : (j m : ℕ) → names (take j ps) m ≡ false → lab_two j m ≡ lab_one (length ps) m
  miss_two j m e = moved_miss g (take j ps) (lab_one (length ps)) m (unnamed (take j ps) m e)

  pub later_one : (k : ℕ) → k < length ps → lab_one k (at k) ≡ lab (at k)
  later_one k less = moved_miss f (take k ps) lab (at k) (not_before ps k d less apart)

  pub later_two : (j : ℕ) → j < length ps → lab_two j (at j) ≡ lab_one (length ps) (at j)
  later_two j less = moved_miss g (take j ps) (lab_one (length ps)) (at j) (not_before ps j d less apart)

  both_is : (j : ℕ) → map (change_to f) ps ++ map (change_to g) (take j ps) ≡ both j
  both_is j = ap (λ (qs : List (ℕ × Label)). map (change_to f) qs ++ map (change_to g) (take j ps)) (sym all_taken)

  -- a property of each place of the two stages holds after a crash
  pub by_stages : (P : List (Option Area) → Type 0) → P areas → ((k : ℕ) → 0 < k → k ≤ length ps → P (areas_one k)) → ((j : ℕ) → 0 < j → j ≤ length ps → P (areas_two j))
      → (k : ℕ) → P (all_changed areas (take k two_changes))
  unfolding all_changed
  by_stages P none one two k = rw (in_two_many f g ps many) (by k (front_of_two (change_to f) (change_to g) ps ps k))
    where
      by : (k : ℕ) → FrontOfTwo (change_to f) (change_to g) ps ps k → P (all_changed areas (take k (map (change_to f) ps ++ map (change_to g) ps)))
      by zero front = none
      by (suc k) (inl (below, is)) = subst (λ (cs : List Change). P (all_changed areas cs)) (sym is) (one (suc k) (omega arith) below)
      by (suc k) (inr (zero, k_is, is)) =
          subst (λ (cs : List Change). P (all_changed areas cs)) (ap (λ (qs : List (ℕ × Label)). map (change_to f) qs) all_taken ∙ sym (append-nil (map (change_to f) ps)) ∙ sym is)
          (one (length ps) (omega arith) (omega arith))
      by (suc k) (inr (suc j, k_is, is)) =
          elim (cases_lt (suc j) (length ps)) [
            | inl less ↦ subst (λ (cs : List Change). P (all_changed areas cs)) (sym (both_is (suc j)) ∙ sym is) (two (suc j) (omega arith) (omega arith))
            | inr all ↦
                subst (λ (cs : List Change). P (all_changed areas cs))
                (ap (λ (qs : List (ℕ × Label)). map (change_to f) (take (length ps) ps) ++ map (change_to g) qs) (all_taken ∙ sym (take_all (suc j) ps all)) ∙ sym (both_is (suc j)) ∙ sym is)
                (two (length ps) (omega arith) (omega arith))
          ]

  pub cut_by_stages : (P : List (Option Area) → Type 0) → P areas → ((k : ℕ) → 0 < k → k ≤ length ps → P (areas_one k)) → ((j : ℕ) → 0 < j → j ≤ length ps → P (areas_two j))
      → (n : ℕ) (stays : Bool) → P (after_steps areas two_changes n stays)
  cut_by_stages P none one two n stays = by (cut_is_front two_changes areas n stays)
    where
      by : IsFront areas two_changes (after_steps areas two_changes n stays) → P (after_steps areas two_changes n stays)
      by (k, below, is) = subst P (sym is) (by_stages P none one two k)
