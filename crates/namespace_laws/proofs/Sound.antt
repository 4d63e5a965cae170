-- Labels that agree, and their status.
use Rattle.std.proofs.Common.{◌≡◌, ℕ, ◌+◌, ◌/◌, ◌%◌, ◌≤◌, Bool, true, false, List, [], ◌∷◌, length, Option, Some, None, refl, sym, ap, ◌∙◌, arith}
use Rattle.std.specs.Prelude.{◌==◌, not, position, unwrap_or, count_by}
use Rattle.std.specs.List.{AllByRecursion}
use Rattle.std.specs.Str.{bytes_eq}
use Rattle.std.proofs.lemmas.Bool.{eq-eqb, le-ltb}
use Rattle.std.proofs.lemmas.Slice.Eq.{bytes_eq-Decides}
use Rattle.nvd_words.specs.Checks.{first_fault}
use Rattle.nfit_reader.specs.declared.table.Mapping.{Mapping}
use Rattle.interleave.specs.Places.{cookie_of, unit_of}
use Rattle.interleave.specs.Sound.{span_of}
use Rattle.label_codec.specs.declared.label.Label.{Label}
use Rattle.label_set.specs.declared.placed.Placed.{Placed}
use Rattle.label_set.specs.declared.placed.Field.{Field}
use Rattle.label_set.specs.declared.placed.Field.TheVariants.{Count, Dpa, RawSize, LbaSize, Guids}
use Rattle.label_set.specs.declared.placed.SetStatus.{SetStatus}
use Rattle.label_set.specs.declared.rules.Rule.TheVariants as rule
use Rattle.label_set.specs.Rules.{least_where, module_of, is_twice, mapping_of, relative_of, is_outside, has_other_cookie, is_elsewhere, is_unaligned, breaks_of, is_local, agrees_of, differ_in}
use Rattle.label_set.specs.Status.{local_finding, twice_finding, broken_finding, differing_finding, missing_finding, naming_of, status_of}
use Rattle.namespace_map.proofs.Rising.{all_pass_to}
use Rattle.namespace_laws.proofs.Whole.{none_passes}
use Rattle.namespace_laws.proofs.Apart.{PlacesApart, on_module, count_apart}

-- what the labels of one namespace have in common
pub record Shared : Type 0 where
  pub offset : ℕ
  pub raw : ℕ
  pub lba : ℕ
  pub kind : List ℕ
  pub abstraction : List ℕ

-- a module's label follows the rules for the set and the other labels
pub record SoundAt (set : List Mapping) (c : Shared) (m : ℕ) (l : Label) : Type 0 where
  pub mapping : Mapping
  pub found : mapping_of set m ≡ Some mapping
  pub starts : l.dpa ≡ mapping.start + c.offset
  pub fits : c.offset + c.raw ≤ span_of set
  pub raw : l.raw ≡ c.raw
  pub lba : l.lba ≡ c.lba
  pub kind : l.kind ≡ c.kind
  pub abstraction : l.abstraction ≡ c.abstraction
  pub cookie : l.cookie ≡ cookie_of set
  pub count : l.count ≡ length set
  pub position : position (λ k. k.«module» == m) set ≡ Some l.position
  pub not_local : (l.flags / 2 % 2 == 1) ≡ false

-- whole units
pub record IsWhole (set : List Mapping) (c : Shared) : Type 0 where
  pub offset : (c.offset % unit_of set == 0) ≡ true
  pub raw : (c.raw % unit_of set == 0) ≡ true

abbrev pub SoundIn : List Mapping → Shared → Placed → Type 0
SoundIn set c p = SoundAt set c p.«module» p.label

-- ---- there is no finding

pub least_none : {X : Type 0} (key : X → ℕ) (test : X → Bool) (xs : List X) → AllByRecursion (λ x. test x ≡ false) xs → least_where key test xs ≡ None
least_none key test [] all = refl
least_none key test (x ∷ xs) (one, rest) = rw one (least_none key test xs rest)

-- labels that agree pairwise
pub agree_all : (field : Field) (set : List Mapping) (P : Placed → Type 0) (xs : List Placed) → AllByRecursion P xs → ((p q : Placed) → P p → P q → agrees_of field set p q ≡ true) → differ_in field set xs ≡ false
agree_all field set P [] all agree = refl
agree_all field set P (p ∷ ps) (one, rest) agree =
    none_passes (λ q. not (agrees_of field set p q)) (p ∷ ps) (all_pass_to P (λ q. not (agrees_of field set p q) ≡ false) (λ q h. rw (agree p q one h) refl) (p ∷ ps) (one, rest))

pub none_first : {F : Type 0} (o : Option F) (os : List (Option F)) → o ≡ None → first_fault (o ∷ os) ≡ first_fault os
unfolding first_fault
none_first None os e = refl
none_first (Some x) os e = absurd (let z : Some x ≡ None = e in cc)

pub only_last : {F : Type 0} (o : Option F) → first_fault (o ∷ []) ≡ o
unfolding first_fault
only_last None = refl
only_last (Some x) = refl

pub same_bytes : (a b c : List ℕ) → a ≡ c → b ≡ c → bytes_eq a b ≡ true
same_bytes a b c e f = (bytes_eq-Decides a b).1 (e ∙ sym f)

pub relative_is : (set : List Mapping) (c : Shared) (p : Placed) → SoundIn set c p → relative_of set p ≡ c.offset
relative_is set c p s = let f = s.found in let e = s.starts in rw f (omega arith)

pub inside_is : (set : List Mapping) (c : Shared) (p : Placed) → SoundIn set c p → is_outside set p ≡ false
inside_is set c p s =
    let f = s.found in let a = s.starts in let b = s.fits in let r = s.raw in
    rw (f, le-ltb p.label.dpa s.mapping.start (omega arith), le-ltb (s.mapping.start + span_of set) (p.label.dpa + p.label.raw) (omega arith)) refl

module _ (set : List Mapping) (c : Shared) (whole : IsWhole set c) (xs : List Placed) (apart : PlacesApart xs) (sound : AllByRecursion (SoundIn set c) xs) where
  each : (P : Placed → Type 0) → ((p : Placed) → SoundIn set c p → P p) → AllByRecursion P xs
  each P step = all_pass_to (SoundIn set c) P step xs sound

  no_local : local_finding xs ≡ None
  no_local = rw (none_passes is_local xs (each (λ p. is_local p ≡ false) (λ p s. s.not_local))) refl

  once_each : (ys : List Placed) → AllByRecursion (λ p. is_twice xs p ≡ false) ys
  once_each [] = tt
  once_each (y ∷ ys) = (le-ltb 1 (count_by (on_module y.«module») xs) (count_apart xs y.«module» apart), once_each ys)

  no_twice : twice_finding xs ≡ None
  no_twice = rw (least_none module_of (is_twice xs) xs (once_each xs)) refl

  no_outside : broken_finding rule.Inside set xs ≡ None
  no_outside = rw (least_none module_of (breaks_of rule.Inside set) xs (each (λ p. is_outside set p ≡ false) (λ p s. inside_is set c p s))) refl

  no_cookie : broken_finding rule.Cookie set xs ≡ None
  no_cookie = rw (least_none module_of (breaks_of rule.Cookie set) xs (each (λ p. has_other_cookie set p ≡ false) (λ p s. rw (eq-eqb p.label.cookie (cookie_of set) s.cookie) refl))) refl

  no_place : broken_finding rule.Position set xs ≡ None
  no_place = rw (least_none module_of (breaks_of rule.Position set) xs (each (λ p. is_elsewhere set p ≡ false) (λ p s. rw (s.position, eq-eqb p.label.position p.label.position refl) refl))) refl

  aligned_of : (p : Placed) → SoundIn set c p → is_unaligned set p ≡ false
  aligned_of p s = rw (relative_is set c p s, whole.offset, s.raw, whole.raw) refl

  no_unaligned : broken_finding rule.Aligned set xs ≡ None
  no_unaligned = rw (least_none module_of (breaks_of rule.Aligned set) xs (each (λ p. is_unaligned set p ≡ false) aligned_of)) refl

  no_differing : (field : Field) → ((p q : Placed) → SoundIn set c p → SoundIn set c q → agrees_of field set p q ≡ true) → differing_finding field set xs ≡ None
  no_differing field agree = rw (agree_all field set (SoundIn set c) xs sound agree) refl

  no_count : differing_finding Count set xs ≡ None
  no_count = no_differing Count (λ p q s t. eq-eqb q.label.count (length set) t.count)

  no_dpa : differing_finding Dpa set xs ≡ None
  no_dpa = no_differing Dpa (λ p q s t. eq-eqb (relative_of set q) (relative_of set p) (relative_is set c q t ∙ sym (relative_is set c p s)))

  no_raw : differing_finding RawSize set xs ≡ None
  no_raw = no_differing RawSize (λ p q s t. eq-eqb q.label.raw p.label.raw (t.raw ∙ sym s.raw))

  no_lba : differing_finding LbaSize set xs ≡ None
  no_lba = no_differing LbaSize (λ p q s t. eq-eqb q.label.lba p.label.lba (t.lba ∙ sym s.lba))

  no_guids : differing_finding Guids set xs ≡ None
  no_guids = no_differing Guids (λ p q s t. rw (same_bytes q.label.kind p.label.kind c.kind t.kind s.kind, same_bytes q.label.abstraction p.label.abstraction c.abstraction t.abstraction s.abstraction) refl)

  -- only a missing label, and the names, remain to decide
  pub status_is_rest : status_of set xs ≡ unwrap_or (missing_finding set xs) (naming_of xs)
  unfolding status_of
  status_is_rest =
      ap (λ (r : Option SetStatus). unwrap_or r (naming_of xs))
      (none_first (local_finding xs) _ no_local
      ∙ none_first (twice_finding xs) _ no_twice
      ∙ none_first (broken_finding rule.Inside set xs) _ no_outside
      ∙ none_first (broken_finding rule.Cookie set xs) _ no_cookie
      ∙ none_first (differing_finding Count set xs) _ no_count
      ∙ none_first (broken_finding rule.Position set xs) _ no_place
      ∙ none_first (differing_finding Dpa set xs) _ no_dpa
      ∙ none_first (differing_finding RawSize set xs) _ no_raw
      ∙ none_first (differing_finding LbaSize set xs) _ no_lba
      ∙ none_first (differing_finding Guids set xs) _ no_guids
      ∙ none_first (broken_finding rule.Aligned set xs) _ no_unaligned
      ∙ only_last (missing_finding set xs))
