-- Labels whose status is unfinished: the rules read backwards.
use Rattle.std.proofs.Common.{◌≡◌, ◌≢◌, ◌⊎◌, inl, inr, length, ℕ, ◌+◌, ◌-◌, ◌%◌, ◌≤◌, Bool, true, false, List, [], ◌∷◌, Option, Some, None, refl, sym, ap, ◌∙◌, arith}
use Rattle.std.specs.Prelude.{◌==◌, not, nat_lt, position, unwrap_or}
use Rattle.std.specs.Option.{option_map}
use Rattle.std.specs.List.{AllByRecursion, list_any, list_all}
use Rattle.std.specs.Str.{bytes_eq}
use Rattle.std.proofs.lemmas.Bool.{cases_Bool, false≢true, eqb-true, not-false, or_parts, and_parts, ltb-false}
use Rattle.std.proofs.lemmas.Option.{none-some, same_Some}
use Rattle.std.proofs.lemmas.Slice.Eq.{bytes_eq-Decides}
use Rattle.nvd_words.specs.Checks.{first_fault, fault_if}
use Rattle.nfit_reader.specs.declared.table.Mapping.{Mapping}
use Rattle.interleave.specs.Places.{cookie_of, unit_of}
use Rattle.interleave.specs.Sound.{span_of}
use Rattle.label_set.specs.declared.placed.Placed.{Placed}
use Rattle.label_set.specs.declared.placed.Field.{Field}
use Rattle.label_set.specs.declared.placed.Field.TheVariants.{Count, Dpa, RawSize, LbaSize, Guids}
use Rattle.label_set.specs.declared.placed.Why.TheVariants.{Twice, Differs, Missing}
use Rattle.label_set.specs.declared.placed.SetStatus.{SetStatus}
use Rattle.label_set.specs.declared.placed.SetStatus.TheVariants.{Local, Incomplete, Unfinished}
use Rattle.label_set.specs.declared.rules.Rule.{Rule}
use Rattle.label_set.specs.declared.rules.Rule.TheVariants as rule
use Rattle.label_set.specs.Rules.{module_of, least_where, least_twice, mapping_of, relative_of, is_past, is_local, is_updating, breaks_of, why_of, agrees_of, differ_in, least_missing}
use Rattle.label_set.specs.Status.{local_finding, twice_finding, broken_finding, differing_finding, short_of, findings, naming_of, status_of}
use Rattle.namespace_map.proofs.Rising.{all_pass_to}
use Rattle.namespace_laws.proofs.Whole.{all_from_none}
use Rattle.namespace_laws.proofs.Sound.{SoundIn, IsWhole}
use Rattle.namespace_laws.proofs.Sets.{unmapped}
use Rattle.namespace_laws.proofs.Shaped.{least_nothing}
use Rattle.namespace_laws.proofs.Allowed.{passed_if}
use Rattle.namespace_laws.proofs.Complete.{shared_of}
use Rattle.namespace_laws.proofs.OwnLabels.{not_unfinished}

-- ---- only the last rule can find an unfinished status

abbrev FindsOther : Option SetStatus → Type 0
FindsOther o = (s : SetStatus) → o ≡ Some s → s ≢ Unfinished

if_finds : (b : Bool) (x : SetStatus) → x ≢ Unfinished → FindsOther (fault_if b x)
if_finds true x other s is same = other (same_Some x s is ∙ same)
if_finds false x other s is same = none-some s is

map_finds : {X : Type 0} (f : X → SetStatus) (o : Option X) → ((x : X) → f x ≢ Unfinished) → FindsOther (option_map f o)
map_finds f None other s is same = none-some s is
map_finds f (Some x) other s is same = other x (same_Some (f x) s is ∙ same)

past : (o : Option SetStatus) (os : List (Option SetStatus)) → FindsOther o → first_fault (o ∷ os) ≡ Some Unfinished → (o ≡ None) × (first_fault os ≡ Some Unfinished)
unfolding first_fault
past None os other e = (refl, e)
past (Some x) os other e = absurd (other x refl (same_Some x Unfinished e))

local_not : Local ≢ Unfinished
local_not e = let g : Local ≡ Unfinished = e in cc

twice_not : (n : ℕ) → Incomplete (Twice n) ≢ Unfinished
twice_not n e = let g : Incomplete (Twice n) ≡ Unfinished = e in cc

broken_not : (r : Rule) (p : Placed) → Incomplete (why_of r p) ≢ Unfinished
broken_not r p e = let g : Incomplete (why_of r p) ≡ Unfinished = e in cc

differs_not : (field : Field) → Incomplete (Differs field) ≢ Unfinished
differs_not field e = let g : Incomplete (Differs field) ≡ Unfinished = e in cc

-- ---- rules that no label violates

differ_none : (field : Field) (set : List Mapping) (p : Placed) (ps : List Placed) → differing_finding field set (p ∷ ps) ≡ None → AllByRecursion (λ q. agrees_of field set p q ≡ true) (p ∷ ps)
differ_none field set p ps e =
    all_pass_to (λ q. not (agrees_of field set p q) ≡ false) (λ q. agrees_of field set p q ≡ true) (λ q e. not-false (agrees_of field set p q) e) (p ∷ ps)
    (all_from_none (λ q. not (agrees_of field set p q)) (p ∷ ps) (passed_if (differ_in field set (p ∷ ps)) (Incomplete (Differs field)) e))

broken_none : (r : Rule) (set : List Mapping) (own : List Placed) → broken_finding r set own ≡ None → AllByRecursion (λ q. breaks_of r set q ≡ false) own
broken_none r set own e = least_nothing module_of (breaks_of r set) own (unmapped (λ p. Incomplete (why_of r p)) (least_where module_of (breaks_of r set) own) e)

-- one label follows the rules, given the first
record Keeps (set : List Mapping) (p q : Placed) : Type 0 where
  quiet : is_local q ≡ false
  inside : breaks_of rule.Inside set q ≡ false
  cookie : breaks_of rule.Cookie set q ≡ false
  place : breaks_of rule.Position set q ≡ false
  count : agrees_of Count set p q ≡ true
  dpa : agrees_of Dpa set p q ≡ true
  raw : agrees_of RawSize set p q ≡ true
  lba : agrees_of LbaSize set p q ≡ true
  guids : agrees_of Guids set p q ≡ true

sound_one : (set : List Mapping) (p q : Placed) → Keeps set p q → SoundIn set (shared_of set p) q
sound_one set p q k = by (mapping_of set q.«module») refl (position (λ m. m.«module» == q.«module») set) refl
  where
    raws : q.label.raw ≡ p.label.raw
    raws = eqb-true q.label.raw p.label.raw k.raw

    offsets : relative_of set q ≡ relative_of set p
    offsets = eqb-true (relative_of set q) (relative_of set p) k.dpa

    guids : (bytes_eq q.label.kind p.label.kind ≡ true) × (bytes_eq q.label.abstraction p.label.abstraction ≡ true)
    guids = and_parts (bytes_eq q.label.kind p.label.kind) (bytes_eq q.label.abstraction p.label.abstraction) k.guids

    starts_at : (m : Mapping) → m.start ≤ q.label.dpa → q.label.dpa - m.start ≡ relative_of set p → q.label.dpa ≡ m.start + relative_of set p
    starts_at m low off = omega (arith, low, off)

    fits_in : (m : Mapping) → q.label.dpa + q.label.raw ≤ m.start + span_of set → q.label.dpa ≡ m.start + relative_of set p → relative_of set p + p.label.raw ≤ span_of set
    fits_in m high e = omega (arith, high, e, raws)

    by : (o : Option Mapping) → mapping_of set q.«module» ≡ o → (i : Option ℕ) → position (λ m. m.«module» == q.«module») set ≡ i → SoundIn set (shared_of set p) q
    by None is i at = absurd (false≢true (sym k.inside ∙ rw is refl))
    by (Some m) is None at = absurd (false≢true (sym k.place ∙ rw at refl))
    by (Some m) is (Some i) at =
        let past : is_past m.start (span_of set) q ≡ false = rw is at k.inside in
        let both = or_parts (nat_lt q.label.dpa m.start) (nat_lt (m.start + span_of set) (q.label.dpa + q.label.raw)) past in
        let low = ltb-false q.label.dpa m.start both.0 in
        let high = ltb-false (m.start + span_of set) (q.label.dpa + q.label.raw) both.1 in
        let off : q.label.dpa - m.start ≡ relative_of set p = rw is at offsets in
        let place : not (q.label.position == i) ≡ false = rw at at k.place in
        record {
          mapping = m;
          found = is;
          starts = starts_at m low off;
          fits = fits_in m high (starts_at m low off);
          raw = raws;
          lba = eqb-true q.label.lba p.label.lba k.lba;
          kind = (bytes_eq-Decides q.label.kind p.label.kind).0 guids.0;
          abstraction = (bytes_eq-Decides q.label.abstraction p.label.abstraction).0 guids.1;
          cookie = eqb-true q.label.cookie (cookie_of set) (not-false (q.label.cookie == cookie_of set) k.cookie);
          count = eqb-true q.label.count (length set) k.count;
          position = at ∙ ap Some (sym (eqb-true q.label.position i (not-false (q.label.position == i) place)));
          not_local = k.quiet;
        }

-- ---- what follows from an unfinished status

pub record Facts (set : List Mapping) (p : Placed) (own : List Placed) : Type 0 where
  pub sound : AllByRecursion (SoundIn set (shared_of set p)) own
  pub whole : IsWhole set (shared_of set p)
  pub updating : AllByRecursion (λ q. is_updating q ≡ true) own

all_updating : (qs : List Placed) → list_all is_updating qs ≡ true → AllByRecursion (λ q. is_updating q ≡ true) qs
all_updating [] e = tt
all_updating (q ∷ qs) e = let both = and_parts (is_updating q) (list_all is_updating qs) e in (both.0, all_updating qs both.1)

last_finds : (own : List Placed) (o : Option ℕ) → first_fault (option_map (short_of own) o ∷ []) ≡ Some Unfinished → AllByRecursion (λ q. is_updating q ≡ true) own
unfolding first_fault
last_finds own None e = absurd (none-some Unfinished e)
last_finds own (Some w) e = by (cases_Bool (list_all is_updating own))
  where
    by : (list_all is_updating own ≡ true) ⊎ (list_all is_updating own ≡ false) → AllByRecursion (λ q. is_updating q ≡ true) own
    by (inl it) = all_updating own it
    by (inr not_it) = absurd (let s : Incomplete (Missing w) ≡ Unfinished = rw not_it at (same_Some (short_of own w) Unfinished e) in cc)

pub facts : (set : List Mapping) (p : Placed) (ps : List Placed) → status_of set (p ∷ ps) ≡ Unfinished → Facts set p (p ∷ ps)
unfolding status_of
facts set p ps e = by (first_fault (findings set (p ∷ ps))) refl e
  where
    kept : (qs : List Placed) → AllByRecursion (λ q. is_local q ≡ false) qs → AllByRecursion (λ q. breaks_of rule.Inside set q ≡ false) qs → AllByRecursion (λ q. breaks_of rule.Cookie set q ≡ false) qs
        → AllByRecursion (λ q. breaks_of rule.Position set q ≡ false) qs → AllByRecursion (λ q. agrees_of Count set p q ≡ true) qs → AllByRecursion (λ q. agrees_of Dpa set p q ≡ true) qs
        → AllByRecursion (λ q. agrees_of RawSize set p q ≡ true) qs → AllByRecursion (λ q. agrees_of LbaSize set p q ≡ true) qs → AllByRecursion (λ q. agrees_of Guids set p q ≡ true) qs → AllByRecursion (Keeps set p) qs
    kept [] a b c d e f g h i = tt
    kept (q ∷ qs) (a, as') (b, bs) (c, cs) (d, ds) (e, es) (f, fs) (g, gs) (h, hs) (i, is) = (
      record { quiet = a; inside = b; cookie = c; place = d; count = e; dpa = f; raw = g; lba = h; guids = i },
      kept qs as' bs cs ds es fs gs hs is,
    )

    found : first_fault (findings set (p ∷ ps)) ≡ Some Unfinished → Facts set p (p ∷ ps)
    found f =
        let r1 = past (local_finding (p ∷ ps)) _ (if_finds (list_any is_local (p ∷ ps)) Local local_not) f in
        let r2 = past (twice_finding (p ∷ ps)) _ (map_finds (λ number. Incomplete (Twice number)) (least_twice (p ∷ ps)) twice_not) r1.1 in
        let r3 = past (broken_finding rule.Inside set (p ∷ ps)) _ (map_finds (λ q. Incomplete (why_of rule.Inside q)) (least_where module_of (breaks_of rule.Inside set) (p ∷ ps)) (broken_not rule.Inside)) r2.1 in
        let r4 = past (broken_finding rule.Cookie set (p ∷ ps)) _ (map_finds (λ q. Incomplete (why_of rule.Cookie q)) (least_where module_of (breaks_of rule.Cookie set) (p ∷ ps)) (broken_not rule.Cookie)) r3.1 in
        let r5 = past (differing_finding Count set (p ∷ ps)) _ (if_finds (differ_in Count set (p ∷ ps)) (Incomplete (Differs Count)) (differs_not Count)) r4.1 in
        let r6 = past (broken_finding rule.Position set (p ∷ ps)) _ (map_finds (λ q. Incomplete (why_of rule.Position q)) (least_where module_of (breaks_of rule.Position set) (p ∷ ps)) (broken_not rule.Position)) r5.1 in
        let r7 = past (differing_finding Dpa set (p ∷ ps)) _ (if_finds (differ_in Dpa set (p ∷ ps)) (Incomplete (Differs Dpa)) (differs_not Dpa)) r6.1 in
        let r8 = past (differing_finding RawSize set (p ∷ ps)) _ (if_finds (differ_in RawSize set (p ∷ ps)) (Incomplete (Differs RawSize)) (differs_not RawSize)) r7.1 in
        let r9 = past (differing_finding LbaSize set (p ∷ ps)) _ (if_finds (differ_in LbaSize set (p ∷ ps)) (Incomplete (Differs LbaSize)) (differs_not LbaSize)) r8.1 in
        let r10 = past (differing_finding Guids set (p ∷ ps)) _ (if_finds (differ_in Guids set (p ∷ ps)) (Incomplete (Differs Guids)) (differs_not Guids)) r9.1 in
        let r11 = past (broken_finding rule.Aligned set (p ∷ ps)) _ (map_finds (λ q. Incomplete (why_of rule.Aligned q)) (least_where module_of (breaks_of rule.Aligned set) (p ∷ ps)) (broken_not rule.Aligned)) r10.1 in
        let aligned = or_parts (not (relative_of set p % unit_of set == 0)) (not (p.label.raw % unit_of set == 0)) (broken_none rule.Aligned set (p ∷ ps) r11.0).0 in
        record {
          sound = all_pass_to (Keeps set p) (SoundIn set (shared_of set p)) (sound_one set p) (p ∷ ps)
              (kept (p ∷ ps) (all_from_none is_local (p ∷ ps) (passed_if (list_any is_local (p ∷ ps)) Local r1.0)) (broken_none rule.Inside set (p ∷ ps) r3.0) (broken_none rule.Cookie set (p ∷ ps) r4.0) (broken_none rule.Position set (p ∷ ps) r6.0)
              (differ_none Count set p ps r5.0) (differ_none Dpa set p ps r7.0) (differ_none RawSize set p ps r8.0) (differ_none LbaSize set p ps r9.0) (differ_none Guids set p ps r10.0));
          whole = record { offset = not-false (relative_of set p % unit_of set == 0) aligned.0; raw = not-false (p.label.raw % unit_of set == 0) aligned.1 };
          updating = last_finds (p ∷ ps) (least_missing (p ∷ ps) set) r11.1;
        }

    by : (o : Option SetStatus) → first_fault (findings set (p ∷ ps)) ≡ o → unwrap_or o (naming_of (p ∷ ps)) ≡ Unfinished → Facts set p (p ∷ ps)
    by None is f = absurd (not_unfinished (p ∷ ps) f)
    by (Some s) is f = found (is ∙ ap Some f)
