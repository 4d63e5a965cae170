-- A format that a power cut may stop, and what a crash leaves of the words of all modules: this project's rules over UEFI 2.10, section 6.2 (BTT
-- Info Block).
use Rattle.std.specs.Prelude.{◌≡◌, ℕ, ◌+◌, ◌*◌, ◌/◌, Bool, true, false, List, [], ◌∷◌, length, take, Option}
use Rattle.nfit_reader.specs.declared.table.Mapping.{Mapping}
use Rattle.interleave.specs.Places.{LiesAt}
use Rattle.cut_words.specs.Words.{IsLeft, Words, settled}
use Rattle.cut_words.specs.Fuses.{burnt, lasts}
use Rattle.arena_layout.specs.declared.layout.Layout.{Layout}
use Rattle.nvd_words.specs.Bytes.{AreBytes}
use Rattle.cut_words.specs.WordBytes.{words_in}
use Rattle.arena_layout.specs.Info.{ReadsBack}
use Rattle.arena_layout.specs.Spelling.{spelling_of}
use Rattle.arena_open.specs.Areas.{new_info}
use Rattle.arena_open.specs.Format.{format_count, format_writes}
use Rattle.arena_open.specs.Writes.{written_over}
use Rattle.image_set.specs.Patches.{patched_contents}
use Rattle.power_cut.specs.Left.{Each, InTurn, LeavesWords}
use Rattle.power_cut.specs.Namespace.{IsLaid, Namespace, ReachEnds, beside_of, over, words_of}
use Rattle.sector_namespaces.specs.Creation.{IsFormattedIn}
use Rattle.sector_namespaces.specs.View.{rows_of}
use Rattle.namespace_bytes.specs.declared.new_bytes.NewBytes.TheVariants.{Runs}
use Rattle.namespace_bytes.specs.Patching.{AreWhole, BytePatch, byte_patched}
use Rattle.format_patch.specs.Format.{format_runs, is_pending, place_of_write, words_left}

-- ---- the patch

-- the bytes of the info block of a new arena that is its own parent
pub record IsBlock (l : Layout) (uuid bytes : List ℕ) : Type 0 where
  pub spelling : bytes ≡ spelling_of (new_info l uuid uuid)
  pub reads : ReadsBack bytes (new_info l uuid uuid)
  pub count : length bytes ≡ 4096
  pub fit : AreBytes bytes
  pub uuid_is : length uuid ≡ 16

-- contents, patched: the first k words of the format are written in the namespace, and nothing beside it has changed
pub record HasFirst (set : List Mapping) (offset raw : ℕ) (l : Layout) (uuid : List ℕ) (k : ℕ) (p : BytePatch) (contents : List (List ℕ)) : Type 0 where
  pub words : words_of (over set offset raw (rows_of (patched_contents (byte_patched p) contents))) ≡ settled (written_over (words_of (over set offset raw (rows_of contents))).kept (take k (format_writes 0 l uuid uuid)))
  pub beside : beside_of (over set offset raw (rows_of (patched_contents (byte_patched p) contents))) ≡ beside_of (over set offset raw (rows_of contents))

abbrev pub PutsFirst : List Mapping → ℕ → ℕ → Layout → List ℕ → ℕ → BytePatch → Type 0
PutsFirst set offset raw l uuid k p = (contents : List (List ℕ)) → AreWhole contents → ReachEnds set (rows_of contents) → HasFirst set offset raw l uuid k p contents

-- a patch that puts the first k words of the format into the namespace
pub record IsFormatPatch (set : List Mapping) (offset raw : ℕ) (l : Layout) (uuid : List ℕ) (k : ℕ) (p : BytePatch) : Type 0 where
  pub is : p ≡ record { set = set; offset = offset; raw = raw; bytes = Runs (format_runs k l (words_in (spelling_of (new_info l uuid uuid)))) }
  pub block : IsBlock l uuid (spelling_of (new_info l uuid uuid))
  pub laid : (modules : List Words) → IsLaid (over set offset raw modules)
  pub puts : PutsFirst set offset raw l uuid k p

-- it is the only one
abbrev pub AreFormatPatch : List Mapping → ℕ → ℕ → Layout → List ℕ → ℕ → List BytePatch → Type 0
AreFormatPatch set offset raw l uuid k patches = (p : BytePatch) × (patches ≡ p ∷ []) × IsFormatPatch set offset raw l uuid k p

-- ---- the chooser

-- The chooser is asked once, about the pending word, by its number in its module.
pub record AsksOne {C : Type 0} (picks : C → ℕ → Bool → C → Type 0) (set : List Mapping) (offset : ℕ) (l : Layout) (n count : ℕ) (before after : C) : Type 0 where
  pub which : ℕ
  pub word : ℕ
  pub stays : Bool
  pub lies : LiesAt set (length set * offset + 8 * place_of_write l (n / 2)) which (8 * word)
  pub picked : picks before word stays after
  pub is : count ≡ words_left n stays

abbrev pub AsksBy : {C : Type 0} → (C → ℕ → Bool → C → Type 0) → List Mapping → ℕ → Layout → ℕ → ℕ → C → C → Bool → Type 0
AsksBy picks set offset l n count before after false = (count ≡ n / 2) × (after ≡ before)
AsksBy picks set offset l n count before after true = AsksOne picks set offset l n count before after

-- so many words are there after a crash that follows n steps of the format; nothing is asked if no word is pending
abbrev pub AsksFor : {C : Type 0} → (C → ℕ → Bool → C → Type 0) → List Mapping → ℕ → Layout → ℕ → ℕ → C → C → Type 0
AsksFor picks set offset l n count before after = AsksBy picks set offset l n count before after (is_pending n)

-- ---- what is left

-- Rows of words of all modules after a crash in a format or behind it, as the chooser decides.
pub record FormatIsLeft {C : Type 0} (picks : C → ℕ → Bool → C → Type 0) (place : List Words → Namespace) (l : Layout) (uuid : List ℕ) (old : List Words) (fuse : Option ℕ) (left : List (List ℕ)) (before after : C) : Type 0 where
  -- the words that the format's steps under the fuse make of the old ones
  pub made : List Words
  pub formatted : IsFormattedIn place l uuid old made fuse (burnt fuse (format_count l)) (lasts fuse (format_count l))
  -- and what is left of them
  pub left_of : Each IsLeft made left
  pub asked : InTurn (LeavesWords picks) made left before after
