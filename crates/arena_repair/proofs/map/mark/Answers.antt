use Rattle.std.proofs.Common.{◌≡◌, ℕ, ◌<◌, Bool, ltb, cond, List, length, map, get_or, sym, ap, ◌∙◌, arith}
use Rattle.std.specs.List.{range_with_len}
use Rattle.std.proofs.lemmas.Bool.{lt-ltb, le-ltb}
use Rattle.std.proofs.lemmas.List.{ext_get_or}
use Rattle.std.proofs.lemmas.List.FromFn.{get_or-map-range_with_len, length-map-range_with_len}
use Rattle.map_table.specs.Entry.{entry_of}
use Rattle.arena_check.specs.Check.{in_arena}
use Rattle.arena_check.proofs.BlockWords.{entry_below}
use Rattle.arena_repair.specs.Repair.{marked_entry}
use Rattle.arena_repair.proofs.map.mark.Goals as goal

-- an entry that isn't passed yet is the old one
as_it_was : (now old : List ℕ) (sector : ℕ) (mark : ℕ → ℕ) → get_or now sector 0 ≡ cond (ltb sector sector) (mark sector) (get_or old sector 0) → get_or now sector 0 ≡ get_or old sector 0
as_it_was now old sector mark is = is ∙ ap (λ (b : Bool). cond b (mark sector) (get_or old sector 0)) (le-ltb sector sector (omega arith))

pub is_bad_data-requires-clause-block : goal.is_bad_data-requires-clause-block
is_bad_data-requires-clause-block g c =
    let old : get_or c.loop-sector.entries c.loop-sector.sector 0 ≡ get_or c.args.entries.now c.loop-sector.sector 0 =
    as_it_was c.loop-sector.entries c.args.entries.now c.loop-sector.sector (λ s. marked_entry c.args.layout.now (in_arena c.args.at (g.B.BadWords.bad c.args.bad.now)) s (get_or c.args.entries.now s 0)) (c.loop-sector.invariant.1 c.loop-sector.sector) in
    let below : (entry_of (get_or c.args.entries.now c.loop-sector.sector 0) c.loop-sector.sector).block < c.args.layout.now.internal =
    entry_below c.args.layout.now.internal c.args.entries.now c.loop-sector.sector c.requires.blocks (omega (arith, c.loop-sector.invariant.0)) in
    let same : c.entry-found.result.block ≡ (entry_of (get_or c.args.entries.now c.loop-sector.sector 0) c.loop-sector.sector).block =
    ap (λ e. e.block) c.entry-found.ensures ∙ ap (λ (w : ℕ). (entry_of w c.loop-sector.sector).block) old in
    omega (arith, below, same)

pub bad_entry-requires : goal.bad_entry-requires
bad_entry-requires g c =
    let old : get_or c.loop-sector.entries c.loop-sector.sector 0 ≡ get_or c.args.entries.now c.loop-sector.sector 0 =
    as_it_was c.loop-sector.entries c.args.entries.now c.loop-sector.sector (λ s. marked_entry c.args.layout.now (in_arena c.args.at (g.B.BadWords.bad c.args.bad.now)) s (get_or c.args.entries.now s 0)) (c.loop-sector.invariant.1 c.loop-sector.sector) in
    let below : (entry_of (get_or c.args.entries.now c.loop-sector.sector 0) c.loop-sector.sector).block < c.args.layout.now.internal =
    entry_below c.args.layout.now.internal c.args.entries.now c.loop-sector.sector c.requires.blocks (omega (arith, c.loop-sector.invariant.0)) in
    let same : c.entry-found.result.block ≡ (entry_of (get_or c.args.entries.now c.loop-sector.sector 0) c.loop-sector.sector).block =
    ap (λ e. e.block) c.entry-found.ensures ∙ ap (λ (w : ℕ). (entry_of w c.loop-sector.sector).block) old in
    omega (arith, below, same, c.requires.layout.internal_few)

pub returns : goal.returns
returns g c =
    let mark : ℕ → ℕ = λ s. marked_entry c.args.layout.now (in_arena c.args.at (g.B.BadWords.bad c.args.bad.now)) s (get_or c.args.entries.now s 0) in
    let long : length c.loop-sector.entries ≡ length c.args.entries.now = c.loop-sector.invariant.0 in
    ext_get_or 0 c.loop-sector.entries (map mark (range_with_len 0 (length c.args.entries.now)))
    (long ∙ sym (length-map-range_with_len mark 0 (length c.args.entries.now)))
    (λ i lt. let in' : i < length c.args.entries.now = omega (arith, lt, long) in
    c.loop-sector.invariant.1 i ∙ ap (λ (b : Bool). cond b (mark i) (get_or c.args.entries.now i 0)) (lt-ltb i c.loop-sector.sector (omega arith))
    ∙ sym (get_or-map-range_with_len mark 0 (length c.args.entries.now) i i 0 in' (omega arith)))
