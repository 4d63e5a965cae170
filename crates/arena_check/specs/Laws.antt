-- Laws about the findings of a check.
use Rattle.std.specs.Prelude.{◌≡◌, ℕ, ◌<◌, Bool, true, false, List, [], length, slice_index, slice_set, Some, Ok}
use Rattle.std.specs.List.{list_all}
use Rattle.map_table.specs.Blocks.{NamesEachOnce, count_of}
use Rattle.arena_open.specs.declared.opened.Opened.{Opened}
use Rattle.arena_open.specs.Reading.{opening}
use Rattle.arena_check.specs.declared.finding.Finding.{Finding}
use Rattle.arena_check.specs.declared.finding.Finding.TheVariants as found
use Rattle.arena_check.specs.Check.{range_findings, twice_findings, missing_findings, block_findings, report_of}

-- a finding that doesn't keep an arena from opening
abbrev pub is_harmless : Finding → Bool
is_harmless (found.Info f) = false
is_harmless (found.Backup f) = true
is_harmless found.Unequal = true
is_harmless (found.Flog lane f) = false
is_harmless (found.Range block) = false
is_harmless (found.Twice block) = false
is_harmless (found.Missing block) = false
is_harmless (found.BadData sector) = true
is_harmless (found.BadMeta word) = true

-- a law: blocks without a finding are each named once
abbrev pub NoFindingsNameEachOnce : Type 0
NoFindingsNameEachOnce = (internal : ℕ) (blocks : List ℕ) → block_findings internal blocks ≡ [] → NamesEachOnce internal blocks

-- a law: an arena without a harmful finding opens
abbrev pub CleanArenasOpen : Type 0
CleanArenasOpen = (at : ℕ) (bad : ℕ → Bool) (words parent : List ℕ) (size : ℕ) → (report_of at bad words parent).size ≡ Some size
    → list_all is_harmless (report_of at bad words parent).findings ≡ true → (opened : Opened) × (opening words parent ≡ Ok opened)

-- a law: the report on an arena that opens has its size and no harmful finding
abbrev pub OpenArenasAreClean : Type 0
OpenArenasAreClean = (at : ℕ) (bad : ℕ → Bool) (words parent : List ℕ) (opened : Opened) → opening words parent ≡ Ok opened
    → ((report_of at bad words parent).size ≡ Some opened.info.layout.size) × (list_all is_harmless (report_of at bad words parent).findings ≡ true)

-- A law: with as many names as blocks, a block is missing only if another is out of range or named twice.
abbrev pub NeverAlone : Type 0
NeverAlone = (n : ℕ) (blocks : List ℕ) → length blocks ≡ n → range_findings n blocks ≡ [] → twice_findings n blocks ≡ [] → missing_findings n blocks ≡ []

-- A law: each block is named once, and then one name is changed. If the new block is named once, it is the old one.
abbrev pub OneEntry : Type 0
OneEntry = (n : ℕ) (blocks : List ℕ) (k block : ℕ) → NamesEachOnce n blocks → k < length blocks → block < n → count_of block (slice_set blocks k block) ≡ 1
    → block ≡ slice_index blocks k
