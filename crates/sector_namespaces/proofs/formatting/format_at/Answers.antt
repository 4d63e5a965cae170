use Rattle.std.proofs.Common.{◌≡◌, ◌∙◌, List, ap, sym, subst, arith}
use Rattle.cut_words.specs.Words.{Words}
use Rattle.arena_open.specs.Writes.{IsSettled}
use Rattle.power_cut.specs.Namespace.{Namespace, ReachEnds, beside_of, count_of, over, words_of}
use Rattle.power_cut.specs.Placed.{beside_and_place}
use Rattle.power_cut.proofs.Spread.{count_is}
use Rattle.sector_namespaces.proofs.Views.{view_settled}
use Rattle.sector_namespaces.proofs.Formats.{format_in, format_is, in_place}
use Rattle.sector_namespaces.proofs.formatting.format_at.Goals as goal

pub of-space-requires-clause-reach : goal.of-space-requires-clause-reach
of-space-requires-clause-reach c =
    let rows_are : c.replace-rows.result.items ≡ c.args.modules.now.items = λ i. (c.replace-rows.ensures.value i).items in
    subst (λ (rows : List Words). ReachEnds c.args.set.now rows) (sym rows_are) c.requires.reach

pub format_arena-formatted-requires : goal.format_arena-formatted-requires
format_arena-formatted-requires c =
    let rows_are : c.replace-rows.result.items ≡ c.args.modules.now.items = λ i. (c.replace-rows.ensures.value i).items in
    let space_is : c.of-space.result ≡ over c.args.set.now c.args.place.offset c.args.place.raw c.args.modules.now.items = c.of-space.ensures.made ∙ (λ i. over c.args.set.now c.args.place.offset c.args.place.raw (rows_are i)) in
    record {
      format = record {
        layout = c.requires.layout;
        inside = omega (arith, c.first_arena-first.ensures, c.requires.room, count_is c.of-space.result, ap (λ (n : Namespace). count_of n) space_is);
        settled = subst (λ (n : Namespace). IsSettled (words_of n)) (sym space_is) (view_settled (over c.args.set.now c.args.place.offset c.args.place.raw c.args.modules.now.items) c.requires.settled);
      };
    }

pub returns : goal.returns
returns c =
    let rows_are : c.replace-rows.result.items ≡ c.args.modules.now.items = λ i. (c.replace-rows.ensures.value i).items in
    let space_is : c.of-space.result ≡ over c.args.set.now c.args.place.offset c.args.place.raw c.args.modules.now.items = c.of-space.ensures.made ∙ (λ i. over c.args.set.now c.args.place.offset c.args.place.raw (rows_are i)) in
    let now = c.format_arena-formatted.new.space in
    let same = c.beside_tells_the_place.ensures (over c.args.set.now c.args.place.offset c.args.place.raw c.args.modules.now.items) now (c.format_arena-formatted.ensures.beside ∙ ap (λ (n : Namespace). beside_and_place n) space_is) in
    let now_is : now ≡ over c.args.set.now c.args.place.offset c.args.place.raw c.into_modules.result.items =
    in_place now c.args.set.now c.args.place.offset c.args.place.raw c.args.modules.now.items same ∙ (λ i. over c.args.set.now c.args.place.offset c.args.place.raw (sym c.into_modules.ensures.modules i)) in
    format_in c.args.set.now c.args.place.offset c.args.place.raw c.args.layout.now c.args.uuid.now c.of-space.result now c.args.modules.now.items c.into_modules.result.items c.args.fuse.now
    c.format_arena-formatted.new.fuse _ space_is now_is (same.beside ∙ ap (λ (n : Namespace). beside_of n) (sym space_is))
    (format_is c.first_arena-first.result c.args.layout.now c.args.uuid.now (words_of c.of-space.result) (words_of now) c.args.fuse.now c.format_arena-formatted.new.fuse c.format_arena-formatted.result
    c.first_arena-first.ensures c.know_uuid.ensures c.format_takes_two_steps_a_word.ensures c.format_arena-formatted.ensures.made c.format_arena-formatted.ensures.outside c.format_arena-formatted.ensures.settles
    c.format_arena-formatted.ensures.opens)
