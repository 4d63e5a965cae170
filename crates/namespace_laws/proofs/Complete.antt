-- Labels whose status is complete agree: the rules read backwards.
use Rattle.std.proofs.Common.{◌≡◌, ℕ, ◌+◌, ◌-◌, ◌%◌, ◌≤◌, Bool, true, false, List, [], ◌∷◌, length, Option, Some, None, refl, sym, ap, ◌∙◌, subst, arith, inl, inr}
use Rattle.std.specs.Prelude.{◌==◌, not, nat_lt, position, unwrap_or}
use Rattle.std.specs.Option.{option_map}
use Rattle.std.specs.List.{AllByRecursion, list_any, list_all}
use Rattle.std.specs.Str.{bytes_eq}
use Rattle.std.proofs.lemmas.Bool.{cases_Bool, false≢true, eqb-true, not-false, or_parts, and_parts, ltb-false}
use Rattle.std.proofs.lemmas.Option.{none-some, same_Some}
use Rattle.std.proofs.lemmas.Slice.Eq.{bytes_eq-Decides}
use Rattle.nvd_words.specs.Checks.{first_fault, fault_if}
use Rattle.nfit_reader.specs.declared.table.Mapping.{Mapping}
use Rattle.interleave.specs.Places.{cookie_of, unit_of}
use Rattle.interleave.specs.Sound.{span_of}
use Rattle.label_set.specs.declared.placed.Placed.{Placed}
use Rattle.label_set.specs.declared.placed.Field.{Field}
use Rattle.label_set.specs.declared.placed.Field.TheVariants.{Count, Dpa, RawSize, LbaSize, Guids}
use Rattle.label_set.specs.declared.placed.Why.TheVariants.{Twice, Differs}
use Rattle.label_set.specs.declared.placed.SetStatus.{SetStatus}
use Rattle.label_set.specs.declared.placed.SetStatus.TheVariants.{Complete, Local, Incomplete}
use Rattle.label_set.specs.declared.rules.Rule.{Rule}
use Rattle.label_set.specs.declared.rules.Rule.TheVariants as rule
use Rattle.label_set.specs.Rules.{module_of, least_where, is_twice, least_twice, mapping_of, relative_of, is_past, is_local, is_updating, breaks_of, why_of, agrees_of, differ_in, least_missing}
use Rattle.label_set.specs.Status.{local_finding, twice_finding, broken_finding, differing_finding, short_of, findings, naming_of, status_of}
use Rattle.namespace_map.proofs.Rising.{all_pass_to}
use Rattle.namespace_map.specs.Commands.{is_complete}
use Rattle.namespace_laws.proofs.Whole.{all_from_none}
use Rattle.namespace_laws.proofs.Sound.{Shared, SoundIn, IsWhole}
use Rattle.namespace_laws.proofs.Sets.{no_fault, unmapped}
use Rattle.namespace_laws.proofs.Shaped.{least_nothing}
use Rattle.namespace_laws.proofs.Allowed.{passed_if}

-- ---- without a finding, labels are complete

abbrev FindsNone : Option SetStatus → Type 0
FindsNone o = (s : SetStatus) → o ≡ Some s → is_complete s ≡ false

if_finds : (b : Bool) (x : SetStatus) → is_complete x ≡ false → FindsNone (fault_if b x)
if_finds true x e s is = subst (λ (y : SetStatus). is_complete y ≡ false) (same_Some x s is) e
if_finds false x e s is = absurd (none-some s is)

map_finds : {X : Type 0} (f : X → SetStatus) (o : Option X) → ((x : X) → is_complete (f x) ≡ false) → FindsNone (option_map f o)
map_finds f None e s is = absurd (none-some s is)
map_finds f (Some x) e s is = subst (λ (y : SetStatus). is_complete y ≡ false) (same_Some (f x) s is) (e x)

first_finds : (os : List (Option SetStatus)) → AllByRecursion FindsNone os → FindsNone (first_fault os)
unfolding first_fault
first_finds [] all s is = absurd (none-some s is)
first_finds (None ∷ os) (one, rest) s is = first_finds os rest s is
first_finds (Some x ∷ os) (one, rest) s is = one s is

short_finds : (own : List Placed) (w : ℕ) → is_complete (short_of own w) ≡ false
short_finds own w = elim (cases_Bool (list_all is_updating own)) [ inl it ↦ rw it refl | inr not_it ↦ rw not_it refl ]

each_finds : (set : List Mapping) (own : List Placed) → AllByRecursion FindsNone (findings set own)
each_finds set own = (
  if_finds (list_any is_local own) Local refl,
  (
    map_finds (λ number. Incomplete (Twice number)) (least_twice own) (λ n. refl),
    (
      map_finds (λ p. Incomplete (why_of rule.Inside p)) (least_where module_of (breaks_of rule.Inside set) own) (λ p. refl),
      (
        map_finds (λ p. Incomplete (why_of rule.Cookie p)) (least_where module_of (breaks_of rule.Cookie set) own) (λ p. refl),
        (
          if_finds (differ_in Count set own) (Incomplete (Differs Count)) refl,
          (
            map_finds (λ p. Incomplete (why_of rule.Position p)) (least_where module_of (breaks_of rule.Position set) own) (λ p. refl),
            (
              if_finds (differ_in Dpa set own) (Incomplete (Differs Dpa)) refl,
              (
                if_finds (differ_in RawSize set own) (Incomplete (Differs RawSize)) refl,
                (
                  if_finds (differ_in LbaSize set own) (Incomplete (Differs LbaSize)) refl,
                  (
                    if_finds (differ_in Guids set own) (Incomplete (Differs Guids)) refl,
                    (
                      map_finds (λ p. Incomplete (why_of rule.Aligned p)) (least_where module_of (breaks_of rule.Aligned set) own) (λ p. refl),
                      (map_finds (short_of own) (least_missing own set) (short_finds own), tt),
                    ),
                  ),
                ),
              ),
            ),
          ),
        ),
      ),
    ),
  ),
)

-- so a complete status means that there is no finding, and follows from the names
record Passed (set : List Mapping) (own : List Placed) (name : List ℕ) (pending : Bool) : Type 0 where
  none : first_fault (findings set own) ≡ None
  named : naming_of own ≡ Complete name pending

passed : (set : List Mapping) (own : List Placed) (name : List ℕ) (pending : Bool) → status_of set own ≡ Complete name pending → Passed set own name pending
unfolding status_of
passed set own name pending e = by (first_fault (findings set own)) refl e
  where
    by : (o : Option SetStatus) → first_fault (findings set own) ≡ o → unwrap_or o (naming_of own) ≡ Complete name pending → Passed set own name pending
    by None is f = record { none = is; named = f }
    by (Some s) is f = absurd (false≢true (sym (first_finds (findings set own) (each_finds set own) s is) ∙ ap is_complete f))

-- ---- rules that no label violates

differ_none : (field : Field) (set : List Mapping) (p : Placed) (ps : List Placed) → differing_finding field set (p ∷ ps) ≡ None → AllByRecursion (λ q. agrees_of field set p q ≡ true) (p ∷ ps)
differ_none field set p ps e =
    all_pass_to (λ q. not (agrees_of field set p q) ≡ false) (λ q. agrees_of field set p q ≡ true) (λ q e. not-false (agrees_of field set p q) e) (p ∷ ps)
    (all_from_none (λ q. not (agrees_of field set p q)) (p ∷ ps) (passed_if (differ_in field set (p ∷ ps)) (Incomplete (Differs field)) e))

broken_none : (r : Rule) (set : List Mapping) (own : List Placed) → broken_finding r set own ≡ None → AllByRecursion (λ q. breaks_of r set q ≡ false) own
broken_none r set own e = least_nothing module_of (breaks_of r set) own (unmapped (λ p. Incomplete (why_of r p)) (least_where module_of (breaks_of r set) own) e)

-- what the labels have in common, from the first of them
abbrev pub shared_of : List Mapping → Placed → Shared
shared_of set p = record { offset = relative_of set p; raw = p.label.raw; lba = p.label.lba; kind = p.label.kind; abstraction = p.label.abstraction }

-- one label follows the rules, given the first
record Keeps (set : List Mapping) (p q : Placed) : Type 0 where
  quiet : is_local q ≡ false
  inside : breaks_of rule.Inside set q ≡ false
  cookie : breaks_of rule.Cookie set q ≡ false
  place : breaks_of rule.Position set q ≡ false
  count : agrees_of Count set p q ≡ true
  dpa : agrees_of Dpa set p q ≡ true
  raw : agrees_of RawSize set p q ≡ true
  lba : agrees_of LbaSize set p q ≡ true
  guids : agrees_of Guids set p q ≡ true

sound_one : (set : List Mapping) (p q : Placed) → Keeps set p q → SoundIn set (shared_of set p) q
sound_one set p q k = by (mapping_of set q.«module») refl (position (λ m. m.«module» == q.«module») set) refl
  where
    raws : q.label.raw ≡ p.label.raw
    raws = eqb-true q.label.raw p.label.raw k.raw

    offsets : relative_of set q ≡ relative_of set p
    offsets = eqb-true (relative_of set q) (relative_of set p) k.dpa

    guids : (bytes_eq q.label.kind p.label.kind ≡ true) × (bytes_eq q.label.abstraction p.label.abstraction ≡ true)
    guids = and_parts (bytes_eq q.label.kind p.label.kind) (bytes_eq q.label.abstraction p.label.abstraction) k.guids

    starts_at : (m : Mapping) → m.start ≤ q.label.dpa → q.label.dpa - m.start ≡ relative_of set p → q.label.dpa ≡ m.start + relative_of set p
    starts_at m low off = omega (arith, low, off)

    fits_in : (m : Mapping) → q.label.dpa + q.label.raw ≤ m.start + span_of set → q.label.dpa ≡ m.start + relative_of set p → relative_of set p + p.label.raw ≤ span_of set
    fits_in m high e = omega (arith, high, e, raws)

    by : (o : Option Mapping) → mapping_of set q.«module» ≡ o → (i : Option ℕ) → position (λ m. m.«module» == q.«module») set ≡ i → SoundIn set (shared_of set p) q
    by None is i at = absurd (false≢true (sym k.inside ∙ rw is refl))
    by (Some m) is None at = absurd (false≢true (sym k.place ∙ rw at refl))
    by (Some m) is (Some i) at =
        let past : is_past m.start (span_of set) q ≡ false = rw is at k.inside in
        let both = or_parts (nat_lt q.label.dpa m.start) (nat_lt (m.start + span_of set) (q.label.dpa + q.label.raw)) past in
        let low = ltb-false q.label.dpa m.start both.0 in
        let high = ltb-false (m.start + span_of set) (q.label.dpa + q.label.raw) both.1 in
        let off : q.label.dpa - m.start ≡ relative_of set p = rw is at offsets in
        let place : not (q.label.position == i) ≡ false = rw at at k.place in
        record {
          mapping = m;
          found = is;
          starts = starts_at m low off;
          fits = fits_in m high (starts_at m low off);
          raw = raws;
          lba = eqb-true q.label.lba p.label.lba k.lba;
          kind = (bytes_eq-Decides q.label.kind p.label.kind).0 guids.0;
          abstraction = (bytes_eq-Decides q.label.abstraction p.label.abstraction).0 guids.1;
          cookie = eqb-true q.label.cookie (cookie_of set) (not-false (q.label.cookie == cookie_of set) k.cookie);
          count = eqb-true q.label.count (length set) k.count;
          position = at ∙ ap Some (sym (eqb-true q.label.position i (not-false (q.label.position == i) place)));
          not_local = k.quiet;
        }

-- what follows from a complete status
pub record Facts (set : List Mapping) (p : Placed) (own : List Placed) (name : List ℕ) (pending : Bool) : Type 0 where
  pub sound : AllByRecursion (SoundIn set (shared_of set p)) own
  pub whole : IsWhole set (shared_of set p)
  pub once : AllByRecursion (λ q. is_twice own q ≡ false) own
  pub named : naming_of own ≡ Complete name pending

pub facts : (set : List Mapping) (p : Placed) (ps : List Placed) (name : List ℕ) (pending : Bool) → status_of set (p ∷ ps) ≡ Complete name pending → Facts set p (p ∷ ps) name pending
facts set p ps name pending e =
    let own : List Placed = p ∷ ps in
    let all = passed set own name pending e in
    let r1 = no_fault (local_finding own) _ all.none in
    let r2 = no_fault (twice_finding own) _ r1.1 in
    let r3 = no_fault (broken_finding rule.Inside set own) _ r2.1 in
    let r4 = no_fault (broken_finding rule.Cookie set own) _ r3.1 in
    let r5 = no_fault (differing_finding Count set own) _ r4.1 in
    let r6 = no_fault (broken_finding rule.Position set own) _ r5.1 in
    let r7 = no_fault (differing_finding Dpa set own) _ r6.1 in
    let r8 = no_fault (differing_finding RawSize set own) _ r7.1 in
    let r9 = no_fault (differing_finding LbaSize set own) _ r8.1 in
    let r10 = no_fault (differing_finding Guids set own) _ r9.1 in
    let r11 = no_fault (broken_finding rule.Aligned set own) _ r10.1 in
    let aligned = or_parts (not (relative_of set p % unit_of set == 0)) (not (p.label.raw % unit_of set == 0)) (broken_none rule.Aligned set own r11.0).0 in
    record {
      sound = all_pass_to (Keeps set p) (SoundIn set (shared_of set p)) (sound_one set p) own
          (kept own (all_from_none is_local own (passed_if (list_any is_local own) Local r1.0)) (broken_none rule.Inside set own r3.0) (broken_none rule.Cookie set own r4.0) (broken_none rule.Position set own r6.0)
          (differ_none Count set p ps r5.0) (differ_none Dpa set p ps r7.0) (differ_none RawSize set p ps r8.0) (differ_none LbaSize set p ps r9.0) (differ_none Guids set p ps r10.0));
      whole = record { offset = not-false (relative_of set p % unit_of set == 0) aligned.0; raw = not-false (p.label.raw % unit_of set == 0) aligned.1 };
      once = least_nothing module_of (is_twice own) own (unmapped (λ q. q) (least_where module_of (is_twice own) own) (twice_none own r2.0));
      named = all.named;
    }
  where
    twice_none : (own : List Placed) → twice_finding own ≡ None → option_map (λ (q : Placed). q) (least_where module_of (is_twice own) own) ≡ None
    twice_none own e = by (least_where module_of (is_twice own) own) (unmapped module_of (least_where module_of (is_twice own) own) (unmapped (λ number. Incomplete (Twice number)) (least_twice own) e))
      where
        by : (o : Option Placed) → o ≡ None → option_map (λ (q : Placed). q) o ≡ None
        by None e = refl
        by (Some x) e = absurd (none-some x (sym e))

    kept : (qs : List Placed) → AllByRecursion (λ q. is_local q ≡ false) qs → AllByRecursion (λ q. breaks_of rule.Inside set q ≡ false) qs → AllByRecursion (λ q. breaks_of rule.Cookie set q ≡ false) qs
        → AllByRecursion (λ q. breaks_of rule.Position set q ≡ false) qs → AllByRecursion (λ q. agrees_of Count set p q ≡ true) qs → AllByRecursion (λ q. agrees_of Dpa set p q ≡ true) qs
        → AllByRecursion (λ q. agrees_of RawSize set p q ≡ true) qs → AllByRecursion (λ q. agrees_of LbaSize set p q ≡ true) qs → AllByRecursion (λ q. agrees_of Guids set p q ≡ true) qs → AllByRecursion (Keeps set p) qs
    kept [] a b c d e f g h i = tt
    kept (q ∷ qs) (a, as') (b, bs) (c, cs) (d, ds) (e, es) (f, fs) (g, gs) (h, hs) (i, is) = (
      record { quiet = a; inside = b; cookie = c; place = d; count = e; dpa = f; raw = g; lba = h; guids = i },
      kept qs as' bs cs ds es fs gs hs is,
    )
