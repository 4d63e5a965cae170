-- The entry after a crash during a create, with any number of modules.
use Rattle.std.proofs.Common.{◌≡◌, ℕ, ◌≤◌, Bool, true, false, List, [], ◌∷◌, length, take, Option, Some, None, refl, sym, ap, ◌∙◌, subst, arith, inl, inr, ◌⊎◌}
use Rattle.std.specs.List.{AllByRecursion}
use Rattle.std.proofs.lemmas.Bool.{cases_lt}
use Rattle.nfit_reader.specs.declared.table.Mapping.{Mapping}
use Rattle.label_codec.specs.declared.label.Label.{Label}
use Rattle.label_set.specs.declared.placed.SetStatus.TheVariants.{Complete}
use Rattle.namespace_map.specs.Namespaces.{NamespaceEntry, lookup}
use Rattle.namespace_map.specs.declared.commands.Make.{Make}
use Rattle.namespace_map.specs.declared.commands.Named.{Named}
use Rattle.namespace_map.specs.Areas.{Area, Change, after_steps}
use Rattle.namespace_map.specs.Commands.{name_in, refusal_of}
use Rattle.namespace_map.specs.Changes.{namespaces_of, changes_of, in_two}
use Rattle.label_codec.specs.Flags.{updating, updated}
use Rattle.namespace_map.proofs.Fronts.{cut_is_front, IsFront}
use Rattle.namespace_map.specs.Left.{AreRegions}
use Rattle.namespace_laws.specs.Laws.{CutOfCreate, CutOfCreateAlone}
use Rattle.namespace_laws.proofs.Staged.{names, IsGiven}
use Rattle.namespace_laws.proofs.Two.{length_kept}
use Rattle.namespace_laws.proofs.Create.{IsNew, CreateLeft, create_cut}
use Rattle.namespace_laws.proofs.CreateOne.{create_cut_one}
use Rattle.namespace_laws.proofs.CreateLaw as law
use Rattle.namespace_laws.proofs.CreateLaw.{length_new, label_for, ps, model, made_entry}
use Rattle.namespace_laws.proofs.Backwards.{none_changing}

-- a crash keeps the number of areas
pub length_cut : (cs : List Change) (areas : List (Option Area)) (n : ℕ) (stays : Bool) → length (after_steps areas cs n stays) ≡ length areas
length_cut cs areas n stays = by (cut_is_front cs areas n stays)
  where
    by : IsFront areas cs (after_steps areas cs n stays) → length (after_steps areas cs n stays) ≡ length areas
    by (k, below, is) = ap (λ (left : List (Option Area)). length left) is ∙ length_kept (take k cs) areas

no_label : ℕ × Label
no_label = (0, record { uuid = []; name = []; flags = 0; count = 0; position = 0; cookie = 0; lba = 0; dpa = 0; raw = 0; slot = 0; align = 0; kind = []; abstraction = []; spa_cookie = 0 })

one_of : {X : Type 0} (xs : List X) → length xs ≡ 1 → (x : X) × (xs ≡ x ∷ [])
one_of [] e = absurd (omega arith)
one_of (x ∷ []) e = (x, refl)
one_of (x ∷ y ∷ xs) e = absurd (omega arith)

module _ (sets : List (List Mapping)) (areas : List (Option Area)) (uuid : List ℕ) (name : Named) (region size : ℕ) (made : Make) (regions : AreRegions sets)
    (good : refusal_of (namespaces_of sets areas) (law.create sets areas uuid name region size made) ≡ None) where
  abbrev set : List Mapping
  set = law.set sets areas uuid name region size made

  abbrev new : NamespaceEntry
  new = made_entry sets areas uuid name region size made

  abbrev news : List (ℕ × Label)
  news = ps sets areas uuid name region size made

  abbrev cut : ℕ → Bool → List (Option Area)
  cut n stays = after_steps areas (changes_of (namespaces_of sets areas) areas (law.create sets areas uuid name region size made)) n stays

  abbrev found : List (Option Area) → Option NamespaceEntry
  found left = lookup uuid (namespaces_of sets left).entries

  absent : found areas ≡ None
  absent = (law.has sets areas uuid name region size made regions good).absent

  -- all of it
  pub whole_left : (left : List (Option Area)) → length left ≡ length areas → law.stands_with sets areas uuid name region size made regions good (Complete (name_in name) false) left → found left ≡ Some new
  whole_left left same s =
      law.shape_is sets areas uuid name region size made regions good left false same s
      ∙ ap (λ (u : List ℕ). Some (record new { updating = u }))
      (none_changing set uuid (model sets areas uuid name region size made) (law.whole sets areas uuid name region size made regions good) (name_in name) left (law.as_stands sets areas uuid name region size made regions good (Complete (name_in name) false) left s))

  -- two modules or more
  many_cut : 2 ≤ length set → (n : ℕ) (stays : Bool) → CutOfCreate new (found (cut n stays))
  many_cut many n stays =
      by (create_cut uuid set (model sets areas uuid name region size made) (law.whole sets areas uuid name region size made regions good) (name_in name) areas (λ m. None) news no_label
      (law.proper sets areas uuid name region size made regions good) (λ m. refl) (law.given sets areas uuid name region size made regions good)
      (law.apart sets areas uuid name region size made regions good) (law.is_new sets areas uuid name region size made regions good) (law.covers sets areas uuid name region size made regions good)
      (omega (arith, length_new (label_for sets areas uuid name region size made) set 0)) n stays)
    where
      same : length (cut n stays) ≡ length areas
      same = length_cut (changes_of (namespaces_of sets areas) areas (law.create sets areas uuid name region size made)) areas n stays

      by : CreateLeft uuid set (model sets areas uuid name region size made) (name_in name) areas (cut n stays) → CutOfCreate new (found (cut n stays))
      by (inl e) = inl (ap found e ∙ absent)
      by (inr (inl s)) = inr (inl (law.part_left sets areas uuid name region size made regions good (cut n stays) same s))
      by (inr (inr (inl s))) = inr (inr (inl (law.pending_left sets areas uuid name region size made regions good (cut n stays) same s)))
      by (inr (inr (inr s))) = inr (inr (inr (whole_left (cut n stays) same s)))

  -- one module
  one_cut : length set ≡ 1 → (n : ℕ) (stays : Bool) → CutOfCreateAlone new (found (cut n stays))
  one_cut one n stays = by (one_of news (length_new (label_for sets areas uuid name region size made) set 0 ∙ one))
    where
      same : length (cut n stays) ≡ length areas
      same = length_cut (changes_of (namespaces_of sets areas) areas (law.create sets areas uuid name region size made)) areas n stays

      left : (cut n stays ≡ areas) ⊎ law.stands_with sets areas uuid name region size made regions good (Complete (name_in name) false) (cut n stays) → CutOfCreateAlone new (found (cut n stays))
      left (inl e) = inl (ap found e ∙ absent)
      left (inr s) = inr (whole_left (cut n stays) same s)

      by : (p : ℕ × Label) × (news ≡ p ∷ []) → CutOfCreateAlone new (found (cut n stays))
      by (p, is) =
          left (subst (λ (qs : List (ℕ × Label)). (after_steps areas (in_two (λ l. Some (updating l)) (λ l. Some (updated l)) qs) n stays ≡ areas)
          ⊎ law.stands_with sets areas uuid name region size made regions good (Complete (name_in name) false) (after_steps areas (in_two (λ l. Some (updating l)) (λ l. Some (updated l)) qs) n stays)) (sym is)
          (create_cut_one uuid set (model sets areas uuid name region size made) (law.whole sets areas uuid name region size made regions good) (name_in name) areas (λ m. None) p
          (law.proper sets areas uuid name region size made regions good) (λ m. refl)
          (subst (λ (qs : List (ℕ × Label)). AllByRecursion (IsGiven uuid (λ m. None) areas) qs) is (law.given sets areas uuid name region size made regions good)).0
          (subst (λ (qs : List (ℕ × Label)). AllByRecursion (IsNew set (model sets areas uuid name region size made) (name_in name)) qs) is (law.is_new sets areas uuid name region size made regions good)).0
          (subst (λ (qs : List (ℕ × Label)). AllByRecursion (λ (m : Mapping). names qs m.«module» ≡ true) set) is (law.covers sets areas uuid name region size made regions good)) n stays))

  pub create_is_cut : (n : ℕ) (stays : Bool) → CutOfCreate new (found (cut n stays))
  create_is_cut n stays = elim (cases_lt 1 (length set)) [
    | inl many ↦ many_cut (omega arith) n stays
    | inr few ↦
        let some = (law.has sets areas uuid name region size made regions good).some in
        more (one_cut (omega arith) n stays)
  ]
    where
      more : CutOfCreateAlone new (found (cut n stays)) → CutOfCreate new (found (cut n stays))
      more (inl e) = inl e
      more (inr e) = inr (inr (inr e))

  pub create_is_cut_alone : length set ≡ 1 → (n : ℕ) (stays : Bool) → CutOfCreateAlone new (found (cut n stays))
  create_is_cut_alone one n stays = one_cut one n stays
