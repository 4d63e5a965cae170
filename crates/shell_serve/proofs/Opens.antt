-- Namespaces are open, or they aren't.
use Rattle.std.proofs.Common.{◌≡◌, ◌≢◌, ◌∙◌, ℕ, zero, suc, ◌<◌, ◌≤◌, ◌*◌, ◌^◌, true, false, List, [], ◌∷◌, length, map, Option, Some, Result, Ok, Err, refl, sym, ap, subst, arith}
use Rattle.std.specs.Prelude.{Contains, IfOk, nat_lt}
use Rattle.std.specs.List.{All}
use Rattle.std.specs.Option.{ForSome}
use Rattle.std.proofs.lemmas.List.Elements.{All-contains}
use Rattle.std.proofs.lemmas.Option.{none-some}
use Rattle.nvd_media.specs.Images.{Images}
use Rattle.nfit_reader.specs.declared.table.Mapping.{Mapping}
use Rattle.interleave.specs.Sound.{span_of}
use Rattle.arena_open.specs.declared.chain_refused.ChainRefused.{ChainRefused}
use Rattle.arena_open.specs.declared.state.ArenaState.{ArenaState}
use Rattle.image_set.specs.declared.changing.OutlineRest.{OutlineRest}
use Rattle.image_set.specs.declared.outline.Outline.{Outline}
use Rattle.image_set.specs.Limits.{most_contents}
use Rattle.image_set.specs.Outline.{HasContents, contents_in}
use Rattle.namespace_areas.specs.declared.found.Found.{Found}
use Rattle.namespace_areas.specs.Finding.{set_at}
use Rattle.namespace_bytes.specs.Patching.{AreWhole}
use Rattle.namespace_words.specs.Source.{HasEnds, Reveals}
use Rattle.namespace_words.proofs.HeldBytes.{contents_long}
use Rattle.sector_namespaces.specs.View.{rows_of}
use Rattle.served_namespaces.specs.declared.places.FoundNamespace.{FoundNamespace}
use Rattle.served_namespaces.specs.declared.places.NotOpened.{NotOpened}
use Rattle.served_namespaces.specs.declared.places.NotOpened.TheVariants.{Broken, OutOfMemory}
use Rattle.served_namespaces.specs.declared.places.OpenedNamespace.{OpenedNamespace}
use Rattle.served_namespaces.specs.declared.places.ReadNamespace.{ReadNamespace}
use Rattle.served_namespaces.specs.Opening.{Broken as ABroken, opened_each}
use Rattle.served_namespaces.specs.Places.{AreDisjoint}
use Rattle.served_namespaces.specs.Reading.{AreHeld, AreReadable, HaveEnds, IsOpened, RevealsAll, opened_all, opened_bytes}
use Rattle.served_namespaces.specs.Steps.{ReachAll}
use Rattle.shell_changes.specs.declared.answer.Answer.{Answer}
use Rattle.shell_changes.specs.Answers.{HasSizes}
use Rattle.shell_changes.specs.Saved.{AreWholeSizes}
use Rattle.shell_reports.specs.declared.outcome.Report.{Report}
use Rattle.shell_reports.specs.Faults.{held_text, most_held, refused_outcome}
use Rattle.shell_reports.specs.Outcome.{Outcome}
use Rattle.shell_reports.specs.Saved.{outcome_of}
use Rattle.shell_sectors.specs.Opening.{HaveSizes}
use Rattle.shell_sectors.proofs.Outlined.{whole_rows}
use Rattle.shell_serve.specs.declared.opening.OpenOutcome.{OpenOutcome}
use Rattle.shell_serve.specs.declared.opening.OpenOutcome.TheVariants as opened
use Rattle.shell_serve.specs.declared.recovered.RecoveredSet.{RecoveredSet}
use Rattle.shell_serve.specs.Answering.{IsNotOpen, LoadsRead, NamesBroken, OpensApart, OpensAs, OpensIn, OpensOne, OpensRead, Shows}
use Rattle.shell_serve.specs.Recovered.{IsRecovered}

-- ---- an outline whose labels are recovered

module _ (outline : Outline) (set : RecoveredSet) (r : IsRecovered outline set) where
  -- the arenas of its namespaces can be read
  pub readable : AreReadable set.registry.sets
  readable =
      subst (λ (sets : List (List Mapping)). AreReadable sets) (sym r.sets)
      (λ region lt. record { pages = r.opened.pages region lt; few = omega (arith, r.opened.spans region lt) })

  -- contents of its sizes are whole words, and reach the end of each mapping
  pub puts_whole : (contents : List (List ℕ)) → HaveSizes outline.sizes contents → AreWhole contents
  puts_whole contents have = whole_rows outline.sizes contents have (subst (λ (x : OutlineRest). AreWholeSizes x.sizes) r.opened.rest_is r.opened.sizes)

  pub reach_all : (sets : List (List Mapping)) → sets ≡ set.registry.sets → (contents : List (List ℕ)) → HaveSizes outline.sizes contents → ReachAll sets contents
  reach_all sets same contents have = subst (λ (s : List (List Mapping)). ReachAll s contents) (sym (same ∙ r.sets)) (r.opened.reach contents have)

  -- what the source has
  module _ (held : Option Images) (source : Images) (told : held ≡ Some source) (has : HasContents set.rest.sizes source) where
    have : HaveSizes outline.sizes (contents_in source (length outline.sizes))
    have = sym (subst (λ (x : OutlineRest). HasContents x.sizes source) r.opened.rest_is has)

    reveals_all : RevealsAll held set.registry.sets (contents_in source (length outline.sizes))
    reveals_all = λ region lt. record {
      source = source;
      told = told;
      are = ap (contents_in source) (sym (contents_long source (length outline.sizes)));
      reach = reach_all set.registry.sets refl (contents_in source (length outline.sizes)) have region lt;
    }

    pub shown : Shows held outline set (contents_in source (length outline.sizes))
    shown = record { sizes = have; reveals = reveals_all }

  pub ends_all : (held : Option Images) → ForSome held (HasContents set.rest.sizes) → HaveEnds held set.registry.sets
  ends_all held there = λ region lt source told. (length outline.sizes, reach_all set.registry.sets refl (contents_in source (length outline.sizes)) (have held source told (there source told)) region lt)

module _ (outline : Outline) (set : RecoveredSet) (r : IsRecovered outline set) where
  -- its sizes are the outline's
  pub outlined : (held : Option Images) → ForSome held (HasContents outline.sizes) → ForSome held (HasContents set.rest.sizes)
  outlined held there = λ source told. subst (λ (x : OutlineRest). HasContents x.sizes source) (sym r.opened.rest_is) (there source told)

  pub sizes_of : (answer : Answer) → HasSizes set.rest.sizes answer → HasSizes outline.sizes answer
  sizes_of answer sizes = subst (λ (x : OutlineRest). HasSizes x.sizes answer) r.opened.rest_is sizes

-- ---- namespaces that are open

pub each_of : (sets : List (List Mapping)) (namespaces : List OpenedNamespace) → All (IsOpened sets) namespaces → (o : OpenedNamespace) → Contains namespaces o → IsOpened sets o
each_of sets namespaces each o there = All-contains (IsOpened sets) namespaces o each there

pub held_on : (sets other : List (List Mapping)) (contents : List (List ℕ)) (namespaces : List OpenedNamespace) → other ≡ sets → AreHeld sets (rows_of contents) namespaces → AreHeld other (rows_of contents) namespaces
held_on sets other contents namespaces same held = subst (λ (s : List (List Mapping)). AreHeld s (rows_of contents) namespaces) (sym same) held

-- ---- from what was read to what opening comes to

module _ (sets : List (List Mapping)) (contents : List (List ℕ)) (places : List FoundNamespace) (read : List ReadNamespace) (is : opened_each sets (rows_of contents) places ≡ Ok (opened_all sets contents read)) where
  pub opens_in : (o : OpenOutcome) → OpensRead sets contents read o → OpensIn sets contents places o
  opens_in (opened.Done namespaces) (are, held, few) = (
    is ∙ ap (λ (ns : List OpenedNamespace). Ok ns) (sym are),
    held,
    subst (λ (ns : List OpenedNamespace). nat_lt most_held (opened_bytes ns) ≡ false) (sym are) few,
  )
  opens_in (opened.Not report) not = subst (λ (r : Result (List OpenedNamespace) ABroken). IsNotOpen r (outcome_of report)) (sym is) not

-- ---- a namespace of one

-- a list of one place
pub one_place : (sets : List (List Mapping)) (place : FoundNamespace) (namespaces : List OpenedNamespace) → map (λ (o : OpenedNamespace). o.place) namespaces ≡ place ∷ [] → (o : OpenedNamespace) × (namespaces ≡ o ∷ []) × (o.place ≡ place)
one_place sets place [] is = absurd (let e = is in cc)
one_place sets place (o ∷ []) is = (o, refl, (let e = is in cc))
one_place sets place (o ∷ p ∷ os) is = absurd (let e = is in cc)

-- ---- answers that nothing is opened

-- what is promised of an answer that was made
pub made_not : {E F : Type 0} (P : Report → Type 0) (Q : OpenOutcome → Type 0) (made : Result Report E) (result : Result OpenOutcome F) → ((r : Report) → P r → Q (opened.Not r))
    → IfOk result (λ o. (r : Report) × ((made ≡ Ok r) × (o ≡ opened.Not r))) → IfOk made P → IfOk result Q
made_not P Q made (Err e) more is holds = tt
made_not P Q made (Ok o) more (r, both) holds = subst Q (sym both.1) (more r (subst (λ x. IfOk x P) both.0 holds))

-- an arena that breaks the format
pub named_broken : (sets : List (List Mapping)) (contents : List (List ℕ)) (places : List FoundNamespace) (refused : NotOpened) (o : OpenOutcome) → NamesBroken refused o
    → ((uuid : List ℕ) (fault : ChainRefused) → refused ≡ Broken uuid fault → opened_each sets (rows_of contents) places ≡ Err (record { uuid = uuid; fault = fault })) → OpensIn sets contents places o
named_broken sets contents places (Broken uuid fault) (opened.Done namespaces) named is = absurd named
named_broken sets contents places (Broken uuid fault) (opened.Not report) named is = subst (λ (r : Result (List OpenedNamespace) ABroken). IsNotOpen r (outcome_of report)) (sym (is uuid fault refl)) named
named_broken sets contents places OutOfMemory o named is = absurd named

-- none that was read in these contents
pub never_named : {A : Type 0} (refused : NotOpened) (o : OpenOutcome) → NamesBroken refused o → ((uuid : List ℕ) (fault : ChainRefused) → refused ≡ Broken uuid fault → ⊥) → A
never_named (Broken uuid fault) o named never = absurd (never uuid fault refl)
never_named OutOfMemory o named never = absurd named

-- what was loaded has few bytes
pub read_few : (sets : List (List Mapping)) (contents : List (List ℕ)) (read : List ReadNamespace) → nat_lt most_held (opened_bytes (opened_all sets contents read)) ≡ false → (o : OpenOutcome) → LoadsRead sets contents read o → OpensRead sets contents read o
read_few sets contents read few (opened.Done namespaces) (are, held) = (are, held, few)
read_few sets contents read few (opened.Not report) never = absurd never

-- no two namespaces at different places share an address
pub apart_as : (sets : List (List Mapping)) (places : List FoundNamespace) → AreDisjoint sets places → (o : OpenOutcome) → OpensAs sets places o → OpensApart sets o
apart_as sets places disjoint (opened.Done namespaces) (each, are) = (each, subst (λ (ps : List FoundNamespace). AreDisjoint sets ps) (sym are) disjoint)
apart_as sets places disjoint (opened.Not report) here = tt

pub sets_on : (held : Option Images) (sets other : List (List Mapping)) → other ≡ sets → HaveEnds held sets → HaveEnds held other
sets_on held sets other same ends = subst (λ (s : List (List Mapping)). HaveEnds held s) (sym same) ends

-- ---- the one namespace of `load`

pub one_as : (sets : List (List Mapping)) (uuid : List ℕ) (found : Found) (o : OpenOutcome) → OpensAs sets (record { uuid = uuid; found = found } ∷ []) o → OpensOne sets uuid o
one_as sets uuid found (opened.Done namespaces) here = (found, here)
one_as sets uuid found (opened.Not report) here = tt

single : (sets : List (List Mapping)) (p : FoundNamespace) → AreDisjoint sets (p ∷ [])
single sets p zero zero a b ne x y = absurd (ne refl)
single sets p zero (suc j) a b ne x y = absurd (none-some b y)
single sets p (suc i) j a b ne x y = absurd (none-some a x)

module _ (sets : List (List Mapping)) (uuid : List ℕ) (namespaces : List OpenedNamespace) (one : OpensOne sets uuid (opened.Done namespaces)) where
  pub one_disjoint : AreDisjoint sets (map (λ (o : OpenedNamespace). o.place) namespaces)
  one_disjoint = subst (λ (ps : List FoundNamespace). AreDisjoint sets ps) (sym one.1.1) (single sets (record { uuid = uuid; found = one.0 }))

  pub one_states : (found : Found) × ((states : List ArenaState) × (namespaces ≡ record { place = record { uuid = uuid; found = found }; states = states } ∷ []))
  one_states =
      let o = one_place sets (record { uuid = uuid; found = one.0 }) namespaces one.1.1 in
      (one.0, (o.0.states, o.1 ∙ ap (λ (p : FoundNamespace). record { place = p; states = o.0.states } ∷ []) o.2))
