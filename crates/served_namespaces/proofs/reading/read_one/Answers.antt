use Rattle.served_namespaces.proofs.ReadInTurn.{read_ends, read_pages}
use Rattle.served_namespaces.proofs.reading.read_one.Goals as goal

pub read_arenas_from-requires-clause-pages : goal.read_arenas_from-requires-clause-pages
read_arenas_from-requires-clause-pages g c = read_pages c.args.sets.now c.requires.readable c.args.place.now.found c.requires.can.lies c.set_at-set.result.now c.set_at-set.ensures

pub read_arenas_from-requires-clause-there : goal.read_arenas_from-requires-clause-there
read_arenas_from-requires-clause-there g c =
    read_ends c.args.sets.now c.requires.readable c.args.place.now.found c.requires.can.lies c.set_at-set.result.now c.set_at-set.ensures (g.S.ImageSource.held c.args.images.now) c.requires.there
