use Rattle.std.proofs.Common.{◌*◌, ℕ, Vec, Global, arith}
use Rattle.power_cut.specs.Namespace.{raw_bytes}
use Rattle.namespace_words.specs.Source.{words_by}
use Rattle.namespace_words.proofs.HeldBytes.{words_long}
use Rattle.namespace_words.proofs.LoadedArenas.{loaded_as, loaded_some}
use Rattle.namespace_words.proofs.loading.load_arenas.Goals as goal

pub returns-clause-told : goal.returns-clause-told
returns-clause-told g c = λ contents reveals all.
    let within = c.end_of_all.ensures.within _ c.requires.within in
    loaded_as (λ (words : Vec ℕ Global). words.items) c.args.uuid.now c.open_read.result (words_by c.args.extent.now contents) c.args.arenas.now (c.div_ceil-count.result * 512) c.end_of_all.result c.in_ok-read.read
    (c.in_ok-read.ensures.told contents reveals) c.in_ok-read.ensures.count c.open_read.ensures.opened c.open_read.ensures.memory all c.end_of_all.ensures.each
    (omega (arith, c.div_ceil-count.ensures))
    (omega (arith, c.div_ceil-count.ensures, within, c.requires.pages, words_long c.args.extent.now contents))

pub returns-clause-refused : goal.returns-clause-refused
returns-clause-refused g c =
    let within = c.end_of_all.ensures.within _ c.requires.within in
    loaded_some (λ (words : Vec ℕ Global). words.items) c.args.uuid.now c.open_read.result (raw_bytes c.args.extent.now) (c.div_ceil-count.result * 512) c.in_ok-read.read c.in_ok-read.ensures.count
    (omega (arith, c.div_ceil-count.ensures, within, c.requires.pages)) c.open_read.ensures.opened c.open_read.ensures.memory
