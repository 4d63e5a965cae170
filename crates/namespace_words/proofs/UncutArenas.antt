-- What opening the arenas of a namespace refuses isn't a power cut, since power stays on.
use Rattle.std.proofs.Common.{◌≡◌, ◌≢◌, ◌==◌, ℕ, zero, suc, ◌+◌, ◌*◌, ◌/◌, Bool, true, false, if◌then◌else◌, List, [], ◌∷◌, length, drop, Option, Some, None, Result, Ok, Err, refl, sym, ap, ◌∙◌}
use Rattle.std.specs.List.{range_with_len}
use Rattle.arena_layout.specs.declared.info.Info.{Info}
use Rattle.arena_layout.specs.declared.info.InfoFault.{InfoFault}
use Rattle.arena_layout.specs.declared.info.InfoFault.TheVariants as info_fault
use Rattle.arena_layout.specs.declared.layout.Layout.{Layout}
use Rattle.arena_layout.specs.Info.{info_reading}
use Rattle.flog.specs.declared.group.Group.{Group}
use Rattle.flog.specs.declared.group.FlogFault.{FlogFault}
use Rattle.flog.specs.Group.{group_reading}
use Rattle.map_table.specs.declared.check.BlockFault.{BlockFault}
use Rattle.map_table.specs.Blocks.{block_check, blocks_of}
use Rattle.arena_open.specs.declared.chain_refused.ChainRefused.{ChainRefused}
use Rattle.arena_open.specs.declared.opened.Opened.{Opened}
use Rattle.arena_open.specs.declared.refused.OpenRefused.{OpenRefused}
use Rattle.arena_open.specs.declared.refused.OpenRefused.TheVariants.{Info as InfoRefused, OutOfMemory, PowerCut}
use Rattle.arena_open.specs.declared.state.ArenaState.{ArenaState}
use Rattle.arena_open.specs.Chain.{HasMemory, Link, Links, chain_answer, chain_of, chain_within, linked, no_more, state_at, states_from, wants_memory, with_state}
use Rattle.arena_open.specs.Places.{group_words}
use Rattle.arena_open.specs.Reading.{free_of, groups_in, groups_of, info_bytes, map_in, moved, moves_of, on_blocks, on_groups, on_info, on_map, opened_with, opening, with_group}
use Rattle.sector_namespaces.specs.View.{opened_view}

-- ---- one arena

group_uncut : (lane : ℕ) (group : Result Group FlogFault) (others : Result (List Group) OpenRefused) (f : OpenRefused) → (others ≡ Err f → f ≢ PowerCut) → with_group lane group others ≡ Err f → f ≢ PowerCut
group_uncut lane (Err fault) others f behind is cut = let e = is in cc
group_uncut lane (Ok group) (Err fault) f behind is cut = behind is cut
group_uncut lane (Ok group) (Ok groups) f behind is cut = let e = is in cc

groups_uncut : (l : Layout) (words lanes : List ℕ) (f : OpenRefused) → groups_of l words lanes ≡ Err f → f ≢ PowerCut
groups_uncut l words [] f is cut = let e = is in cc
groups_uncut l words (lane ∷ lanes) f is cut =
    group_uncut lane (group_reading (group_words l words lane) l.external l.internal) (groups_of l words lanes) f (groups_uncut l words lanes f) is cut

blocks_uncut : (opened : Opened) (named : Result (Unit {0}) BlockFault) (f : OpenRefused) → on_blocks opened named ≡ Err f → f ≢ PowerCut
blocks_uncut opened (Err fault) f is cut = let e = is in cc
blocks_uncut opened (Ok named) f is cut = let e = is in cc

map_uncut : (info : Info) (groups : List Group) (entries : List ℕ) (f : OpenRefused) → on_map info groups entries ≡ Err f → f ≢ PowerCut
map_uncut info groups entries f is =
    let moves = moves_of entries groups in
    blocks_uncut (opened_with info groups (moved entries moves) moves) (block_check info.layout.internal (blocks_of (moved entries moves) (free_of groups))) f is

lanes_uncut : (words : List ℕ) (info : Info) (read : Result (List Group) OpenRefused) (f : OpenRefused) → (read ≡ Err f → f ≢ PowerCut) → on_groups words info read ≡ Err f → f ≢ PowerCut
lanes_uncut words info (Err fault) f behind is cut =
    let same : fault ≡ f = (let e = is in cc) in
    behind (ap (λ (x : OpenRefused). Err x) same) cut
lanes_uncut words info (Ok groups) f behind is cut = map_uncut info groups (map_in info.layout words) f is cut

info_uncut : (words : List ℕ) (read : Result Info InfoFault) (f : OpenRefused) → on_info words read ≡ Err f → f ≢ PowerCut
info_uncut words (Err fault) f is cut = let e = is in cc
info_uncut words (Ok info) f is cut =
    lanes_uncut words info (groups_in info.layout words) f (groups_uncut info.layout words (range_with_len 0 info.layout.lanes) f) is cut

opening_uncut : (words parent : List ℕ) (f : OpenRefused) → opening words parent ≡ Err f → f ≢ PowerCut
unfolding opening
opening_uncut words parent f is = info_uncut words (info_reading (info_bytes words) parent (8 * length words)) f is

-- ---- all arenas of a namespace

behind_uncut : (last : Bool) (more : Links) (f : OpenRefused) → (more.refused ≡ Some f → f ≢ PowerCut) → (if last then no_more else more).refused ≡ Some f → f ≢ PowerCut
behind_uncut true more f behind is cut = let e = is in cc
behind_uncut false more f behind is cut = behind is cut

linked_uncut : (at : ℕ) (read : Result Opened OpenRefused) (from : ℕ → Links) (f : OpenRefused) → (read ≡ Err f → f ≢ PowerCut) → ((next : ℕ) → (from next).refused ≡ Some f → f ≢ PowerCut)
    → (linked at read from).refused ≡ Some f → f ≢ PowerCut
linked_uncut at (Err fault) from f here behind is cut =
    let same : fault ≡ f = (let e = is in cc) in
    here (ap (λ (x : OpenRefused). Err x) same) cut
linked_uncut at (Ok opened) from f here behind is cut =
    behind_uncut (opened.info.next == 0) (from (at + opened.info.next / 8)) f (behind (at + opened.info.next / 8)) is cut

chain_uncut : (n : ℕ) (words parent : List ℕ) (at : ℕ) (f : OpenRefused) → (chain_within n words parent at).refused ≡ Some f → f ≢ PowerCut
unfolding chain_within
chain_uncut zero words parent at f is cut = let e = is in cc
chain_uncut (suc n) words parent at f is cut =
    linked_uncut at (opening (drop at words) parent) (chain_within n words parent) f (opening_uncut (drop at words) parent f) (λ next. chain_uncut n words parent next f) is cut

abbrev refused_at : ℕ → OpenRefused → ChainRefused
refused_at k fault = record { arena = k; fault = fault }

state_uncut : (state : ArenaState) (behind : Result (List ArenaState) ChainRefused) (f : ChainRefused) → (behind ≡ Err f → f.fault ≢ PowerCut) → with_state state behind ≡ Err f → f.fault ≢ PowerCut
state_uncut state (Err fault) f uncut is cut = uncut is cut
state_uncut state (Ok states) f uncut is cut = let e = is in cc

states_uncut : (k : ℕ) (words : List ℕ) (refused : Option OpenRefused) (links : List Link) (f : ChainRefused) → ((fault : OpenRefused) → refused ≡ Some fault → fault ≢ PowerCut)
    → states_from k None words refused links ≡ Err f → f.fault ≢ PowerCut
states_uncut k words None [] f uncut is cut = let e = is in cc
states_uncut k words (Some fault) [] f uncut is cut =
    let same : refused_at k fault ≡ f = (let e = is in cc) in
    uncut fault refl (ap (λ (r : ChainRefused). r.fault) same ∙ cut)
states_uncut k words refused (link ∷ links) f uncut is cut =
    state_uncut (state_at words link) (states_from (k + 1) None words refused links) f (states_uncut (k + 1) words refused links f uncut) is cut

unless_empty : (empty : Bool) (words uuid : List ℕ) (f : ChainRefused)
    → ◌≡◌ {A = Result (List ArenaState) ChainRefused} (if empty then Err (refused_at 0 (InfoRefused info_fault.Signature)) else chain_answer None words uuid 0) (Err f) → f.fault ≢ PowerCut
unless_empty true words uuid f is cut =
    let same : refused_at 0 (InfoRefused info_fault.Signature) ≡ f = (let e = is in cc) in
    let e = ap (λ (r : ChainRefused). r.fault) same ∙ cut in cc
unless_empty false words uuid f is cut =
    states_uncut 0 words (chain_of words uuid 0).refused (chain_of words uuid 0).links f (chain_uncut (length words) words uuid 0) is cut

pub view_uncut : (words uuid : List ℕ) (f : ChainRefused) → opened_view words uuid ≡ Err f → f.fault ≢ PowerCut
unfolding opened_view
view_uncut words uuid f is = unless_empty (length words == 0) words uuid f is

-- ---- where out of memory may come in place of any answer

pub finding_uncut : (words uuid : List ℕ) (f : ChainRefused) → (f.fault ≢ OutOfMemory → opened_view words uuid ≡ Err f) → f.fault ≢ PowerCut
finding_uncut words uuid f told cut = view_uncut words uuid f (told (λ wanting. let e = sym wanting ∙ cut in cc)) cut

pub read_uncut : (words uuid : List ℕ) (f : ChainRefused) → (HasMemory (Err f) → Err f ≡ opened_view words uuid) → f.fault ≢ PowerCut
read_uncut words uuid f told =
    finding_uncut words uuid f (λ finding. sym (told (λ k e. finding (let same : f ≡ wants_memory k = cc in ap (λ (r : ChainRefused). r.fault) same))))
