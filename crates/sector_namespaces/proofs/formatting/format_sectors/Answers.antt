use Rattle.std.proofs.Common.{◌≡◌, ◌∙◌, ℕ, ◌/◌, ◌%◌, ◌*◌, ◌+◌, ◌≤◌, length, ap, sym, subst}
use Rattle.std.specs.Prelude.{is_ok}
use Rattle.interleave.specs.Places.{unit_of}
use Rattle.interleave.specs.Sound.{span_of}
use Rattle.arena_layout.specs.declared.layout.Layout.{Layout}
use Rattle.arena_layout.specs.Layout.{IsLayout}
use Rattle.namespace_map.specs.Commands.{share_of}
use Rattle.power_cut.specs.Namespace.{over}
use Rattle.sector_namespaces.specs.Creation.{IsFormattedIn, layout_for}
use Rattle.sector_namespaces.proofs.Good.{layout_can, room_can}
use Rattle.sector_namespaces.proofs.formatting.format_sectors.Goals as goal

pub format_at-requires-clause-to : goal.format_at-requires-clause-to
format_at-requires-clause-to c =
    let raw_is : c.args.spec.now.size / c.from.result ≡ share_of c.args.set.now c.args.spec.now.size = ap (λ (w : ℕ). c.args.spec.now.size / w) (c.from.ensures ∙ c.ways.ensures.ways) in
    subst (λ (q : ℕ). q % unit_of c.args.set.now ≡ 0) (sym raw_is) c.requires.place.to

pub format_at-requires-clause-inside : goal.format_at-requires-clause-inside
format_at-requires-clause-inside c =
    let raw_is : c.args.spec.now.size / c.from.result ≡ share_of c.args.set.now c.args.spec.now.size = ap (λ (w : ℕ). c.args.spec.now.size / w) (c.from.ensures ∙ c.ways.ensures.ways) in
    subst (λ (q : ℕ). c.args.offset + q ≤ span_of c.args.set.now) (sym raw_is) c.requires.place.inside

pub format_at-requires-clause-layout : goal.format_at-requires-clause-layout
format_at-requires-clause-layout c = subst IsLayout (sym c.layout_for-layout.ensures) (layout_can c.args.set.now c.args.offset c.args.spec.now c.requires.place)

pub format_at-requires-clause-room : goal.format_at-requires-clause-room
format_at-requires-clause-room c =
    let raw_is : c.args.spec.now.size / c.from.result ≡ share_of c.args.set.now c.args.spec.now.size = ap (λ (w : ℕ). c.args.spec.now.size / w) (c.from.ensures ∙ c.ways.ensures.ways) in
    subst (λ (q : ℕ). c.layout_for-layout.result.size / 8 ≤ length c.args.set.now * q / 8) (sym raw_is)
    (subst (λ (l : Layout). l.size / 8 ≤ length c.args.set.now * share_of c.args.set.now c.args.spec.now.size / 8) (sym c.layout_for-layout.ensures)
    (room_can c.args.set.now c.args.offset c.args.spec.now c.requires.place))

pub returns : goal.returns
returns c =
    let raw_is : c.args.spec.now.size / c.from.result ≡ share_of c.args.set.now c.args.spec.now.size = ap (λ (w : ℕ). c.args.spec.now.size / w) (c.from.ensures ∙ c.ways.ensures.ways) in
    subst (λ (q : ℕ). IsFormattedIn (over c.args.set.now c.args.offset q) (layout_for c.args.spec.now) c.args.spec.now.uuid c.args.modules.now.items c.format_at.new.modules.items c.args.fuse.now c.format_at.new.fuse (is_ok c.format_at.result)) raw_is
    (subst (λ (l : Layout). IsFormattedIn (over c.args.set.now c.args.offset (c.args.spec.now.size / c.from.result)) l c.args.spec.now.uuid c.args.modules.now.items c.format_at.new.modules.items c.args.fuse.now c.format_at.new.fuse (is_ok c.format_at.result))
    c.layout_for-layout.ensures c.format_at.ensures)
