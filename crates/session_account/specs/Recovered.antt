-- What recovery makes of the label areas that a journal left.
use Rattle.std.specs.Prelude.{◌≡◌, ◌⊎◌, ℕ, List, [], ◌∷◌, Option, MatchBool}
use Rattle.cut_words.specs.Fuses.{burnt, lasts}
use Rattle.nfit_reader.specs.declared.table.Mapping.{Mapping}
use Rattle.namespace_map.specs.Areas.{Area}
use Rattle.namespace_map.specs.Changes.{namespaces_of, recovered_areas}
use Rattle.namespace_map.specs.Left.{AreRegions, LabelsAreRead}
use Rattle.namespace_map.specs.Namespaces.{Namespaces}
use Rattle.namespace_ops.specs.Entries.{JournalEntry}
use Rattle.namespace_ops.specs.Replay.{Kept}
use Rattle.session_account.specs.Journal.{AreLeft, kept_with, steps_at}

-- the namespaces of areas once they are recovered
abbrev pub recovered_namespaces : List (List Mapping) → List (Option Area) → Namespaces
recovered_namespaces sets areas = namespaces_of sets (recovered_areas sets areas)

-- ---- a command that was cut

-- recovered, the areas after the cut have the namespaces from before the command, or those from after it
abbrev pub CutRecovers : List (List Mapping) → Kept → JournalEntry → List (Option Area) → Type 0
CutRecovers sets k e left =
    (recovered_namespaces sets left ≡ recovered_namespaces sets k.areas)
    ⊎ (recovered_namespaces sets left ≡ recovered_namespaces sets (kept_with sets k e).areas)

-- ---- a journal

-- recovered, the areas at its end have the namespaces that its commands made; or, if one was cut, those from before or after that one
unfoldable pub LeftRecovers : List (List Mapping) → Kept → Option ℕ → List JournalEntry → List (Option Area) → Type 0
LeftRecovers sets k fuse [] left = recovered_namespaces sets left ≡ recovered_namespaces sets k.areas
LeftRecovers sets k fuse (e ∷ es) left =
    MatchBool (lasts fuse (steps_at sets k e))
    (LeftRecovers sets (kept_with sets k e) (burnt fuse (steps_at sets k e)) es left)
    (CutRecovers sets k e left)

-- a law: the areas that a journal leaves recover so
abbrev pub JournalsRecover : Type 0
JournalsRecover =
    (sets : List (List Mapping)) (from : Kept) (fuse : Option ℕ) (journal : List JournalEntry) (left : List (Option Area))
    → AreRegions sets → LabelsAreRead from.areas → AreLeft sets from fuse journal left → LeftRecovers sets from fuse journal left
