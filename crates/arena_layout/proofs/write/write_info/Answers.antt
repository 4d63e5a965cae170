use Rattle.arena_layout.proofs.ReadBack.{reads_back_at}
use Rattle.arena_layout.proofs.write.write_info.Goals as goal

pub returns-clause-reads_back : goal.returns-clause-reads_back
returns-clause-reads_back c = reads_back_at _ _ c.requires c.spell.ensures.fits c.spell.ensures.spelling
