-- A complete create: its label changes have the effect of its step on the map.
use Rattle.std.proofs.Common.{◌≡◌, ◌≢◌, ℕ, suc, ◌+◌, ◌-◌, ◌≤◌, true, false, List, [], ◌∷◌, length, Option, Some, None, refl, sym, ap, ◌∙◌, subst, arith, inl, inr}
use Rattle.std.specs.Prelude.{◌==◌, map}
use Rattle.std.specs.List.{AllByRecursion, enumerate_from}
use Rattle.std.proofs.lemmas.Bool.{cases_Bool, ne_eqb, eqb-true}
use Rattle.std.proofs.lemmas.Option.{none-some, same_Some}
use Rattle.nfit_reader.specs.declared.table.Mapping.{Mapping}
use Rattle.label_codec.specs.declared.label.Label.{Label}
use Rattle.label_set.specs.declared.placed.SetStatus.TheVariants.{Complete}
use Rattle.label_set.specs.Rules.{mapping_of, modules_of}
use Rattle.namespace_map.specs.Namespaces.{NamespaceEntry, AreaSummary}
use Rattle.namespace_map.proofs.Rising.{all_pass_to}
use Rattle.namespace_map.specs.declared.commands.Make.{Make}
use Rattle.namespace_map.specs.declared.commands.Named.{Named}
use Rattle.namespace_map.specs.Areas.{Area, Change, slots_on, free_in, all_changed}
use Rattle.namespace_map.specs.Commands.{count_in, done, name_in, refusal_of}
use Rattle.namespace_map.specs.Changes.{namespaces_of, changes_of}
use Rattle.label_codec.specs.Flags.{updating, updated}
use Rattle.namespace_map.specs.CommandLaws.{IsOf}
use Rattle.namespace_map.proofs.Slots.{owned}
use Rattle.namespace_map.proofs.Areas.{Fitting, moved_all, sum_kept}
use Rattle.namespace_map.specs.Left.{AreRegions}
use Rattle.namespace_laws.proofs.Staged.{names, IsGiven, KeepsUuid}
use Rattle.namespace_laws.proofs.Two.{length_kept}
use Rattle.namespace_laws.proofs.Table.{like_updated, updated_doesnt, sound_like}
use Rattle.namespace_laws.proofs.Create.{StandsAs, IsNew}
use Rattle.namespace_laws.proofs.Sets.{ModulesApart, IsSet}
use Rattle.namespace_laws.proofs.Regions.{found_passes}
use Rattle.namespace_laws.proofs.CreateLaw as law
use Rattle.namespace_laws.proofs.CreateLaw.{label_for, ps, model, made_entry, length_new}
use Rattle.namespace_laws.proofs.CreateCut.{whole_left}
use Rattle.namespace_laws.proofs.Final.{two_hit, two_miss, two_fits, two_of, Becomes, stands_end}
use Rattle.namespace_laws.proofs.Agrees.{entries_put, areas_taken}

-- ---- create

count_in_none : (ms : List Mapping) (m : ℕ) → mapping_of ms m ≡ None → count_in (modules_of ms) m ≡ 0
count_in_none [] m e = refl
count_in_none (k ∷ ks) m e =
    elim (cases_Bool (k.«module» == m)) [
      | inl it ↦ absurd (none-some k (sym (rw it at e)))
      | inr not_it ↦ rw not_it (count_in_none ks m (rw not_it at e))
    ]

none_apart : (ms : List Mapping) (m : ℕ) → AllByRecursion (λ (k : Mapping). m ≢ k.«module») ms → mapping_of ms m ≡ None
none_apart [] m all = refl
none_apart (k ∷ ks) m (ne, rest) = rw (ne_eqb k.«module» m (λ e. ne (sym e))) (none_apart ks m rest)

-- a module of a set occurs once among its modules
count_in_one : (ms : List Mapping) (m : ℕ) (k : Mapping) → ModulesApart ms → mapping_of ms m ≡ Some k → count_in (modules_of ms) m ≡ 1
count_in_one [] m k apart e = absurd (none-some k e)
count_in_one (j ∷ js) m k (one, rest) e =
    elim (cases_Bool (j.«module» == m)) [
      | inl it ↦
          let same : j.«module» ≡ m = eqb-true j.«module» m it in
          let others : mapping_of js m ≡ None = none_apart js m (subst (λ (n : ℕ). AllByRecursion (λ (i : Mapping). n ≢ i.«module») js) same one) in
          rw it (ap suc (count_in_none js m others))
      | inr not_it ↦ rw not_it (count_in_one js m k rest (rw not_it at e))
    ]

names_none : (f : ℕ × Mapping → ℕ × Label) → ((e : ℕ × Mapping) → (f e).0 ≡ e.1.«module») → (ms : List Mapping) (k m : ℕ) → mapping_of ms m ≡ None → names (map f (enumerate_from k ms)) m ≡ false
names_none f number [] k m e = refl
names_none f number (j ∷ js) k m e =
    elim (cases_Bool (j.«module» == m)) [
      | inl it ↦ absurd (none-some j (sym (rw it at e)))
      | inr not_it ↦ rw (number (k, j), not_it) (names_none f number js (k + 1) m (rw not_it at e))
    ]

module _ (sets : List (List Mapping)) (areas : List (Option Area)) (uuid : List ℕ) (name : Named) (region size : ℕ) (made : Make) (regions : AreRegions sets)
    (good : refusal_of (namespaces_of sets areas) (law.create sets areas uuid name region size made) ≡ None) where
  abbrev set : List Mapping
  set = law.set sets areas uuid name region size made

  abbrev news : List (ℕ × Label)
  news = ps sets areas uuid name region size made

  abbrev put_updating : Label → Option Label
  put_updating l = Some (updating l)

  abbrev put_updated : Label → Option Label
  put_updated l = Some (updated l)

  ku : KeepsUuid put_updating
  ku l l' is = ap (λ (k : Label). k.uuid) (sym (same_Some (updating l) l' is))

  ks : KeepsUuid put_updated
  ks l l' is = ap (λ (k : Label). k.uuid) (sym (same_Some (updated l) l' is))

  abbrev creating : List Change
  creating = changes_of (namespaces_of sets areas) areas (law.create sets areas uuid name region size made)

  becomes : AllByRecursion (Becomes set (model sets areas uuid name region size made) (name_in name) put_updated) news
  becomes =
      all_pass_to (IsNew set (model sets areas uuid name region size made) (name_in name)) (Becomes set (model sets areas uuid name region size made) (name_in name) put_updated)
      (λ p is. record {
        new = updated p.1;
        is_new = refl;
        sound = sound_like set (model sets areas uuid name region size made) p.0 p.1 (updated p.1) is.sound (like_updated p.1);
        named = is.named;
        quiet = updated_doesnt p.1;
      }) news (law.is_new sets areas uuid name region size made regions good)

  no_lab : (m : ℕ) (l : Label) → ◌≡◌ {A = Option Label} None (Some l) → names news m ≡ true
  no_lab m l is = absurd (none-some l is)

  some_new : 1 ≤ length news
  some_new = let some = (law.has sets areas uuid name region size made regions good).some in omega (arith, length_new (label_for sets areas uuid name region size made) set 0, some)

  given : AllByRecursion (IsGiven uuid (λ m. None) areas) news
  given = law.given sets areas uuid name region size made regions good

  stands : StandsAs uuid set (model sets areas uuid name region size made) (name_in name) (Complete (name_in name) false) (all_changed areas creating)
  stands =
      stands_end uuid set (model sets areas uuid name region size made) (law.whole sets areas uuid name region size made regions good) (name_in name) areas (λ m. None) news put_updating put_updated ku ks
      (law.proper sets areas uuid name region size made regions good) given no_lab (law.covers sets areas uuid name region size made regions good) becomes some_new

  pub all_of : AllByRecursion (IsOf uuid) creating
  all_of = two_of uuid put_updating put_updated ku ks news (all_pass_to (IsGiven uuid (λ m. None) areas) (λ p. p.1.uuid ≡ uuid) (λ p g. g.0) news given)

  pub fits : Fitting uuid (λ m. None) areas creating
  fits = two_fits uuid (λ m. None) areas put_updating put_updated ku ks news given

  sum : (i : ℕ) → free_in (slots_on (all_changed areas creating) i) + owned (moved_all (λ m. None) creating i) ≡ free_in (slots_on areas i) + 0
  sum i = sum_kept creating uuid (λ m. None) areas (law.proper sets areas uuid name region size made regions good) fits i

  free : (i : ℕ) → free_in (slots_on (all_changed areas creating) i) ≡ free_in (slots_on areas i) - count_in (modules_of set) i
  free i = by (mapping_of set i) refl
    where
      sound_set : IsSet set
      sound_set = law.sound_set sets areas uuid name region size made regions good

      by : (o : Option Mapping) → mapping_of set i ≡ o → free_in (slots_on (all_changed areas creating) i) ≡ free_in (slots_on areas i) - count_in (modules_of set) i
      by None is =
          let none : names news i ≡ false = names_none (label_for sets areas uuid name region size made) (λ e. refl) set 0 i is in
          let owns : owned (moved_all (λ m. None) creating i) ≡ 0 = ap owned (two_miss put_updating put_updated news (λ m. None) i none) in
          omega (arith, sum i, owns, count_in_none set i is)
      by (Some k) is =
          let both = found_passes (λ (j : Mapping). j.«module» == i) (λ (j : Mapping). names news j.«module» ≡ true) set k is (law.covers sets areas uuid name region size made regions good) in
          let named : names news i ≡ true = ap (names news) (sym (eqb-true k.«module» i both.0)) ∙ both.1 in
          let owns : owned (moved_all (λ m. None) creating i) ≡ 1 =
          two_hit (λ n o. owned o ≡ 1) put_updating put_updated news (λ m. None) i named (ones news) in
          omega (arith, sum i, owns, count_in_one set i k sound_set.apart is)
        where
          ones : (qs : List (ℕ × Label)) → AllByRecursion (λ (q : ℕ × Label). owned (put_updated q.1) ≡ 1) qs
          ones [] = tt
          ones (q ∷ qs) = (refl, ones qs)

  pub create_agrees : namespaces_of sets (all_changed areas creating) ≡ done (namespaces_of sets areas) (law.create sets areas uuid name region size made)
  create_agrees =
      ap (λ (es : List NamespaceEntry). record (namespaces_of sets (all_changed areas creating)) { entries = es })
      (entries_put sets areas uuid creating (two_of uuid put_updating put_updated ku ks news (all_pass_to (IsGiven uuid (λ m. None) areas) (λ p. p.1.uuid ≡ uuid) (λ p g. g.0) news given))
      (made_entry sets areas uuid name region size made) refl (whole_left sets areas uuid name region size made regions good (all_changed areas creating) (length_kept creating areas) stands))
      ∙ ap (λ (as' : List AreaSummary). record (done (namespaces_of sets areas) (law.create sets areas uuid name region size made)) { areas = as' }) (areas_taken areas creating (modules_of set) free)
