-- The findings that a repair leaves open.
use Rattle.std.proofs.Common.{◌≡◌, ℕ, ◌+◌, ◌-◌, ◌/◌, Bool, true, false, not, cond, eqb, leb, ltb, List, [], ◌∷◌, ◌++◌, map, Result, Ok, Err, refl, ap, ◌∙◌}
use Rattle.std.specs.Prelude.{filter}
use Rattle.std.specs.List.{range_with_len, cons_option}
use Rattle.std.proofs.lemmas.List.Elements.{filter-append}
use Rattle.arena_layout.specs.declared.layout.Layout.{Layout}
use Rattle.arena_layout.specs.declared.info.Info.{Info}
use Rattle.arena_layout.specs.declared.info.InfoFault.{InfoFault}
use Rattle.flog.specs.declared.group.Group.{Group}
use Rattle.flog.specs.declared.group.FlogFault.{FlogFault}
use Rattle.flog.specs.Group.{group_reading}
use Rattle.map_table.specs.Blocks.{count_of}
use Rattle.arena_open.specs.Places.{group_words}
use Rattle.arena_check.specs.declared.finding.Finding.{Finding}
use Rattle.arena_check.specs.declared.finding.Finding.TheVariants as found
use Rattle.arena_check.specs.Check.{backup_finding, group_finding, flog_findings_of, range_findings, twice_findings, missing_findings, block_findings, bad_meta, meta_findings}
use Rattle.arena_repair.specs.Repair.{is_repaired}

-- the findings that stay open
abbrev pub left_open : List Finding → List Finding
left_open findings = filter (λ finding. not (is_repaired finding)) findings

pub open-append : (xs ys : List Finding) → left_open (xs ++ ys) ≡ left_open xs ++ left_open ys
open-append xs ys = filter-append (λ finding. not (is_repaired finding)) xs ys

both_open : (xs ys : List Finding) → left_open xs ≡ xs → left_open ys ≡ ys → left_open (xs ++ ys) ≡ xs ++ ys
both_open xs ys e f = open-append xs ys ∙ (λ i. e i ++ f i)

all_open : (make : ℕ → Finding) → ((n : ℕ) → is_repaired (make n) ≡ false) → (ns : List ℕ) → left_open (map make ns) ≡ map make ns
all_open make stays [] = refl
all_open make stays (n ∷ ns) =
    ap (λ (b : Bool). cond (not b) (make n ∷ left_open (map make ns)) (left_open (map make ns))) (stays n)
    ∙ ap (λ (fs : List Finding). make n ∷ fs) (all_open make stays ns)

-- of a lane's group
flog_by : (lane : ℕ) (r : Result Group FlogFault) (rest : List Finding) → left_open rest ≡ rest
    → left_open (cons_option (group_finding lane r) rest) ≡ cons_option (group_finding lane r) rest
flog_by lane (Err fault) rest e = ap (λ (fs : List Finding). found.Flog lane fault ∷ fs) e
flog_by lane (Ok group) rest e = e

pub flog_open : (l : Layout) (words lanes : List ℕ) → left_open (flog_findings_of l words lanes) ≡ flog_findings_of l words lanes
flog_open l words [] = refl
flog_open l words (lane ∷ lanes) = flog_by lane (group_reading (group_words l words lane) l.external l.internal) (flog_findings_of l words lanes) (flog_open l words lanes)

-- of blocks
pub block_open : (n : ℕ) (blocks : List ℕ) → left_open (block_findings n blocks) ≡ block_findings n blocks
block_open n blocks =
    both_open (range_findings n blocks) (twice_findings n blocks ++ missing_findings n blocks)
    (all_open found.Range (λ b. refl) (filter (leb n) blocks))
    (both_open (twice_findings n blocks) (missing_findings n blocks)
    (all_open found.Twice (λ b. refl) (filter (λ b. ltb 1 (count_of b blocks)) (range_with_len 0 n)))
    (all_open found.Missing (λ b. refl) (filter (λ b. eqb (count_of b blocks) 0) (range_with_len 0 n))))

-- of the words of the info block, the map, the log and the backup
pub meta_open : (at : ℕ) (bad : ℕ → Bool) (l : Layout) → left_open (meta_findings at bad l) ≡ meta_findings at bad l
unfolding bad_meta meta_findings
meta_open at bad l =
    both_open (bad_meta bad at 512) (bad_meta bad (at + l.map_off / 8) (l.size / 8 - l.map_off / 8))
    (all_open found.BadMeta (λ w. refl) (filter bad (range_with_len at 512)))
    (all_open found.BadMeta (λ w. refl) (filter bad (range_with_len (at + l.map_off / 8) (l.size / 8 - l.map_off / 8))))

-- ---- the findings that are repaired

-- of sectors
pub data_gone : (sectors : List ℕ) → left_open (map found.BadData sectors) ≡ []
data_gone [] = refl
data_gone (sector ∷ sectors) = data_gone sectors

-- of the backup
pub backup_gone : (same : Bool) (r : Result Info InfoFault) → left_open (cons_option (backup_finding same r) []) ≡ []
backup_gone same (Err fault) = refl
backup_gone true (Ok info) = refl
backup_gone false (Ok info) = refl
