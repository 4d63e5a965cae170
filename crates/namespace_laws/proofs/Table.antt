-- The entry of a command after a crash.
use Rattle.std.proofs.Common.{◌≡◌, ℕ, ◌+◌, ◌/◌, ◌%◌, ◌<◌, Bool, true, false, List, length, Option, Some, None, refl, sym, ap, ◌∙◌, arith}
use Rattle.std.specs.Prelude.{◌==◌, not, find, unwrap_or}
use Rattle.std.specs.List.{AllByRecursion, list_any}
use Rattle.std.proofs.lemmas.Bool.{false≢true, eq-eqb}
use Rattle.nfit_reader.specs.declared.table.Mapping.{Mapping}
use Rattle.label_codec.specs.declared.label.Label.{Label}
use Rattle.label_set.specs.declared.placed.Placed.{Placed}
use Rattle.label_set.specs.declared.placed.SetStatus.{SetStatus}
use Rattle.label_set.specs.declared.placed.SetStatus.TheVariants.{Complete, Unfinished}
use Rattle.label_set.specs.Rules.{is_updating, least_missing}
use Rattle.label_set.specs.Status.{missing_finding, naming_of, status_of}
use Rattle.label_codec.specs.Flags.{without_updating, updating, updated}
use Rattle.namespace_map.proofs.Rising.{all_pass_to}
use Rattle.namespace_map.specs.Areas.{Area}
use Rattle.namespace_map.specs.Changes.{with_name}
use Rattle.namespace_map.proofs.Areas.{Proper}
use Rattle.namespace_laws.proofs.Whole.{own_of, own_each, AllLab, any_of, any_none}
use Rattle.namespace_laws.proofs.Apart.{own_apart, on_module}
use Rattle.namespace_laws.proofs.Sound.{Shared, SoundAt, IsWhole, status_is_rest}
use Rattle.namespace_laws.proofs.Statuses.{missing_none, missing_where, unfinished, one_name, two_names, stands_on, still}

-- ---- flags

updates : (f : ℕ) → (without_updating f + 8) / 8 % 2 ≡ 1
updates f = omega arith

settles : (f : ℕ) → without_updating f / 8 % 2 ≡ 0
settles f = omega arith

local_updating : (f : ℕ) → (without_updating f + 8) / 2 % 2 ≡ f / 2 % 2
local_updating f = omega arith

local_settled : (f : ℕ) → without_updating f / 2 % 2 ≡ f / 2 % 2
local_settled f = omega arith

abbrev pub changes_now : Label → Bool
changes_now l = l.flags / 8 % 2 == 1

pub updating_changes : (l : Label) → changes_now (updating l) ≡ true
updating_changes l = eq-eqb _ 1 (updates l.flags)

pub updated_doesnt : (l : Label) → changes_now (updated l) ≡ false
updated_doesnt l = rw (settles l.flags) refl

-- a label that differs only in its slot, name and UPDATING
pub record IsLike (l l' : Label) : Type 0 where
  pub uuid : l'.uuid ≡ l.uuid
  pub dpa : l'.dpa ≡ l.dpa
  pub raw : l'.raw ≡ l.raw
  pub lba : l'.lba ≡ l.lba
  pub kind : l'.kind ≡ l.kind
  pub abstraction : l'.abstraction ≡ l.abstraction
  pub cookie : l'.cookie ≡ l.cookie
  pub count : l'.count ≡ l.count
  pub position : l'.position ≡ l.position
  pub align : l'.align ≡ l.align
  pub spa_cookie : l'.spa_cookie ≡ l.spa_cookie
  pub is_local : l'.flags / 2 % 2 ≡ l.flags / 2 % 2
  pub read_only : l'.flags % 2 ≡ l.flags % 2
  pub kept : without_updating l'.flags ≡ without_updating l.flags

pub like_like : (a b c : Label) → IsLike a b → IsLike b c → IsLike a c
like_like a b c p q = record {
  uuid = q.uuid ∙ p.uuid;
  dpa = q.dpa ∙ p.dpa;
  raw = q.raw ∙ p.raw;
  lba = q.lba ∙ p.lba;
  kind = q.kind ∙ p.kind;
  abstraction = q.abstraction ∙ p.abstraction;
  cookie = q.cookie ∙ p.cookie;
  count = q.count ∙ p.count;
  position = q.position ∙ p.position;
  align = q.align ∙ p.align;
  spa_cookie = q.spa_cookie ∙ p.spa_cookie;
  is_local = q.is_local ∙ p.is_local;
  read_only = q.read_only ∙ p.read_only;
  kept = q.kept ∙ p.kept;
}

like_flags : (l : Label) (f : ℕ) → f / 2 % 2 ≡ l.flags / 2 % 2 → f % 2 ≡ l.flags % 2 → without_updating f ≡ without_updating l.flags → IsLike l (record l { flags = f })
like_flags l f a b c = record {
  uuid = refl;
  dpa = refl;
  raw = refl;
  lba = refl;
  kind = refl;
  abstraction = refl;
  cookie = refl;
  count = refl;
  position = refl;
  align = refl;
  spa_cookie = refl;
  is_local = a;
  read_only = b;
  kept = c;
}

pub like_self : (l : Label) → IsLike l l
like_self l = like_flags l l.flags refl refl refl

pub like_slot : (l : Label) (n : ℕ) → IsLike l (record l { slot = n })
like_slot l n = record {
  uuid = refl;
  dpa = refl;
  raw = refl;
  lba = refl;
  kind = refl;
  abstraction = refl;
  cookie = refl;
  count = refl;
  position = refl;
  align = refl;
  spa_cookie = refl;
  is_local = refl;
  read_only = refl;
  kept = refl;
}

pub like_named : (l : Label) (new : List ℕ) → IsLike l (with_name new l)
like_named l new = record {
  uuid = refl;
  dpa = refl;
  raw = refl;
  lba = refl;
  kind = refl;
  abstraction = refl;
  cookie = refl;
  count = refl;
  position = refl;
  align = refl;
  spa_cookie = refl;
  is_local = refl;
  read_only = refl;
  kept = refl;
}

updating_keeps : (f : ℕ) → without_updating (without_updating f + 8) ≡ without_updating f
updating_keeps f = omega arith

settled_keeps : (f : ℕ) → without_updating (without_updating f) ≡ without_updating f
settled_keeps f = omega arith

even_updating : (f : ℕ) → (without_updating f + 8) % 2 ≡ f % 2
even_updating f = omega arith

even_settled : (f : ℕ) → without_updating f % 2 ≡ f % 2
even_settled f = omega arith

pub like_updating : (l : Label) → IsLike l (updating l)
like_updating l = like_flags l (without_updating l.flags + 8) (local_updating l.flags) (even_updating l.flags) (updating_keeps l.flags)

pub like_updated : (l : Label) → IsLike l (updated l)
like_updated l = like_flags l (without_updating l.flags) (local_settled l.flags) (even_settled l.flags) (settled_keeps l.flags)

-- ---- labels that are like others, by module

-- what labels have in common, and the intended label on each module
pub record Model : Type 0 where
  pub shared : Shared
  pub base : ℕ → Option Label

-- a module's label is valid, and like the intended one
pub record SoundAs (set : List Mapping) (c : Model) (m : ℕ) (l : Label) : Type 0 where
  pub sound : SoundAt set c.shared m l
  pub meant : Label
  pub is_meant : c.base m ≡ Some meant
  pub like : IsLike meant l

pub at_like : (set : List Mapping) (c : Shared) (m : ℕ) (l l' : Label) → SoundAt set c m l → IsLike l l' → SoundAt set c m l'
at_like set c m l l' s k = record {
  mapping = s.mapping;
  found = s.found;
  starts = k.dpa ∙ s.starts;
  fits = s.fits;
  raw = k.raw ∙ s.raw;
  lba = k.lba ∙ s.lba;
  kind = k.kind ∙ s.kind;
  abstraction = k.abstraction ∙ s.abstraction;
  cookie = k.cookie ∙ s.cookie;
  count = k.count ∙ s.count;
  position = s.position ∙ ap Some (sym k.position);
  not_local = ap (λ (n : ℕ). n == 1) k.is_local ∙ s.not_local;
}

pub sound_like : (set : List Mapping) (c : Model) (m : ℕ) (l l' : Label) → SoundAs set c m l → IsLike l l' → SoundAs set c m l'
sound_like set c m l l' s k = record { sound = at_like set c.shared m l l' s.sound k; meant = s.meant; is_meant = s.is_meant; like = like_like s.meant l l' s.like k }

-- ---- areas in which the labels of one UUID are valid

module _ (uuid : List ℕ) (set : List Mapping) (c : Model) (whole : IsWhole set c.shared) (lab : ℕ → Option Label) (areas : List (Option Area)) (proper : Proper uuid lab areas)
    (sound : AllLab (SoundAs set c) lab) where
  pub own_status : status_of set (own_of uuid areas) ≡ unwrap_or (missing_finding set (own_of uuid areas)) (naming_of (own_of uuid areas))
  own_status = status_is_rest set c.shared whole (own_of uuid areas) (own_apart uuid lab areas proper)
      (own_each uuid lab areas proper (SoundAt set c.shared) (λ m l is n. (sound_like set c m l (record l { slot = n }) (sound m l is) (like_slot l n)).sound))

  -- a module of the set has no label yet, or none any more, and all labels have UPDATING
  pub own_unfinished : (m : ℕ) (found : Mapping) → find (λ k. k.«module» == m) set ≡ Some found → lab m ≡ None → AllLab (λ m l. changes_now l ≡ true) lab
      → status_of set (own_of uuid areas) ≡ Unfinished
  own_unfinished m found is none all = by (missing_where set (own_of uuid areas) m found is (any_none uuid lab areas m proper none))
    where
      by : (w : ℕ) × (least_missing (own_of uuid areas) set ≡ Some w) → status_of set (own_of uuid areas) ≡ Unfinished
      by (w, e) =
          own_status ∙ ap (λ (o : Option SetStatus). unwrap_or o (naming_of (own_of uuid areas)))
          (unfinished set (own_of uuid areas) w (own_each uuid lab areas proper (λ m l. changes_now l ≡ true) (λ m l is n. all m l is)) e)

  -- each module of the set has a label
  abbrev pub HasAll : Type 0
  HasAll = AllByRecursion (λ (m : Mapping). (m.«module» < length areas) × ((l : Label) × (lab m.«module» ≡ Some l))) set

  pub own_counted : HasAll → status_of set (own_of uuid areas) ≡ naming_of (own_of uuid areas)
  own_counted has =
      own_status ∙ ap (λ (o : Option SetStatus). unwrap_or o (naming_of (own_of uuid areas)))
      (missing_none set (own_of uuid areas) (all_pass_to (λ (m : Mapping). (m.«module» < length areas) × ((l : Label) × (lab m.«module» ≡ Some l))) (λ m. stands_on (own_of uuid areas) m ≡ true) (λ m h. stands m h) set has))
    where
      stands : (m : Mapping) → (m.«module» < length areas) × ((l : Label) × (lab m.«module» ≡ Some l)) → stands_on (own_of uuid areas) m ≡ true
      stands m (below, (l, is)) = any_of uuid lab areas m.«module» l (on_module m.«module») proper below is (λ s. eq-eqb m.«module» m.«module» refl)

  -- with one name
  pub own_complete : HasAll → (name : List ℕ) → AllLab (λ m l. l.name ≡ name) lab → list_any (λ (p : Placed). true) (own_of uuid areas) ≡ true
      → status_of set (own_of uuid areas) ≡ Complete name (list_any is_updating (own_of uuid areas))
  own_complete has name named some = own_counted has ∙ one_name (own_of uuid areas) name (own_each uuid lab areas proper (λ m l. l.name ≡ name) (λ m l is n. named m l is)) some

  -- with two names
  pub own_halved : HasAll → (old new : List ℕ) → AllLab (λ m l. changes_now l ≡ false → l.name ≡ old) lab → AllLab (λ m l. changes_now l ≡ true → l.name ≡ new) lab
      → list_any still (own_of uuid areas) ≡ true → list_any is_updating (own_of uuid areas) ≡ true → status_of set (own_of uuid areas) ≡ Complete old true
  own_halved has old new olds news some_old some_new =
      own_counted has ∙ two_names (own_of uuid areas) old new
      (own_each uuid lab areas proper (λ m l. not (changes_now l) ≡ true → l.name ≡ old) (λ m l is n e. olds m l is (not_is (changes_now l) e)))
      (own_each uuid lab areas proper (λ m l. changes_now l ≡ true → l.name ≡ new) (λ m l is n. news m l is))
      some_old some_new
    where
      not_is : (b : Bool) → not b ≡ true → b ≡ false
      not_is true e = absurd (false≢true e)
      not_is false e = refl
