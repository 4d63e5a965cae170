use Rattle.std.proofs.Common.{◌≡◌, ◌∙◌, ◌%◌, ◌^◌, ◌≤◌, List, [], sym, subst}
use Rattle.nfit_reader.specs.declared.table.Mapping.{Mapping}
use Rattle.arena_open.specs.declared.state.ArenaState.{ArenaState}
use Rattle.arena_open.specs.ChainCells.{AreOpen}
use Rattle.namespace_words.specs.Source.{HasEnds}
use Rattle.power_cut.specs.Namespace.{IsLaid, Namespace, over, raw_bytes}
use Rattle.served_namespaces.specs.declared.places.NotOpened.TheVariants.{Broken}
use Rattle.served_namespaces.specs.declared.places.OpenedNamespace.{OpenedNamespace}
use Rattle.served_namespaces.specs.Places.{arena_words, place_in}
use Rattle.served_namespaces.specs.Reading.{IsHeld, opened_in}
use Rattle.sector_namespaces.specs.View.{rows_of}
use Rattle.served_namespaces.proofs.LoadedInTurn.{chain_is, few_words, is_held, loaded_here, refused_uncut}
use Rattle.served_namespaces.proofs.ReadInTurn.{read_ends, read_few, read_pages}
use Rattle.served_namespaces.proofs.loading.load_one.Goals as goal

pub load_arenas-requires-clause-pages : goal.load_arenas-requires-clause-pages
load_arenas-requires-clause-pages g c =
    subst (λ (e : Namespace). raw_bytes e % 4096 ≡ 0) (sym c.of-extent.ensures.made)
    (read_pages c.args.sets.now c.requires.readable c.args.read.place.found c.requires.sound.can.lies c.set_at-set.result.now c.set_at-set.ensures)

pub load_arenas-requires-clause-there : goal.load_arenas-requires-clause-there
load_arenas-requires-clause-there g c =
    subst (λ (e : Namespace). HasEnds (g.S.ImageSource.held c.args.images.now) e.set) (sym c.of-extent.ensures.made)
    (read_ends c.args.sets.now c.requires.readable c.args.read.place.found c.requires.sound.can.lies c.set_at-set.result.now c.set_at-set.ensures (g.S.ImageSource.held c.args.images.now) c.requires.there)

pub returns-in-Ok-clause-open : goal.returns-in-Ok-clause-open
returns-in-Ok-clause-open g c =
    let some = c.in_ok-chain.ensures.refused in
    let few : raw_bytes c.of-extent.result ≤ 2 ^ 55 =
    subst (λ (e : Namespace). raw_bytes e ≤ 2 ^ 55) (sym c.of-extent.ensures.made)
    (read_few c.args.sets.now c.requires.readable c.args.read.place.found c.requires.sound.can.lies c.set_at-set.result.now c.set_at-set.ensures) in
    let states : c.from_vec.result ≡ c.in-Ok.chain = c.from_vec.ensures ∙ c.into_arenas.ensures.value in
    record {
      can = c.requires.sound.can;
      are_open = subst (λ (ss : List ArenaState). AreOpen ss) (sym c.from_vec.ensures) c.into_arenas.ensures.«open»;
      few = subst (λ (ss : List ArenaState). arena_words ss ≤ 2 ^ 52) (sym states)
          (few_words c.in_ok-chain.field-0 c.in-Ok.chain some.0 c.args.read.place.uuid (raw_bytes c.of-extent.result) c.in-Ok.is some.1 few some.2);
    }

pub returns-in-Ok-clause-told : goal.returns-in-Ok-clause-told
returns-in-Ok-clause-told g c = λ contents reveals read.
    let held = g.S.ImageSource.held c.args.images.now in
    let states : c.from_vec.result ≡ (opened_in c.args.sets.now contents c.args.read).states =
    c.from_vec.ensures ∙ c.into_arenas.ensures.value
    ∙ chain_is c.in_ok-chain.field-0 c.in-Ok.chain (opened_in c.args.sets.now contents c.args.read).states c.in-Ok.is
    (loaded_here c.args.sets.now held contents reveals c.args.read c.requires.sound read c.set_at-set.result.now c.set_at-set.ensures c.of-extent.result c.of-extent.ensures.made c.as_slice.result.now c.as_slice.ensures
    c.in_ok-chain.field-0 (c.in_ok-chain.ensures.told contents)) in
    let laid : IsLaid (place_in c.args.sets.now c.args.read.place.found []) =
    subst (λ (s : List Mapping). IsLaid (over s c.args.read.place.found.offset c.args.read.place.found.raw [])) c.set_at-set.ensures
    (subst (λ (e : Namespace). IsLaid e) c.of-extent.ensures.made c.of-extent.ensures.laid) in
    let is : record { place = c.args.read.place; states = c.from_vec.result } ≡ opened_in c.args.sets.now contents c.args.read = λ j. record { place = c.args.read.place; states = states j } in (
      λ uuid fault e. (let clash = e in cc),
      (is, subst (λ (o : OpenedNamespace). IsHeld c.args.sets.now (rows_of contents) o) (sym is) (is_held c.args.sets.now held contents reveals c.args.read c.requires.sound read laid)),
    )

pub returns-clause-uncut : goal.returns-clause-uncut
returns-clause-uncut g c = λ uuid fault e.
    let why : c.not_opened.result ≡ Broken uuid fault = cc in
    let some = c.in_ok-chain.ensures.refused in
    refused_uncut c.args.read.place c.in-Err.refused c.not_opened.result c.not_opened.ensures some.0 c.in_ok-chain.field-0 c.in-Err.is some.2 uuid fault why
