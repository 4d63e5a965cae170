-- A read by what its first look finds.
use Rattle.std.proofs.Common.{◌≡◌, ℕ, ◌+◌, true, List, [], refl, sym, ap, ◌∙◌, subst, arith}
use Rattle.atomic_table.specs.Table.{Me}
use Rattle.map_table.specs.declared.kinds.Kind.{Kind}
use Rattle.map_table.specs.declared.kinds.Kind.TheVariants as kind
use Rattle.map_table.specs.declared.kinds.MapEntry.{MapEntry}
use Rattle.map_table.specs.Entry.{entry_in, entry_of}
use Rattle.arena_open.specs.declared.cell.CellKind.{CellKind}
use Rattle.arena_open.specs.declared.cell.CellKind.TheVariants as cell_kind
use Rattle.lane_core.specs.declared.phase.Phase.TheVariants.{Idle}
use Rattle.lane_core.specs.Areas.{block_in, has_bytes, kind_in}
use Rattle.lane_table.specs.declared.fuse.Fuse.{Fuse}
use Rattle.lane_table.specs.declared.loading.Found.TheVariants as found
use Rattle.lane_table.specs.declared.loading.ReadFate.{ReadFate}
use Rattle.lane_table.specs.declared.loading.ReadFate.TheVariants as fate
use Rattle.lane_table.specs.declared.table.Call.{Call}
use Rattle.lane_table.specs.declared.table.View.{View}
use Rattle.lane_table.specs.Fuse.{Fell, Burnt}
use Rattle.lane_table.specs.Reads.{found_by, cell_of_kind, after_read, calling, BlockEnds, Gets, ReadEnds, Answers}
use Rattle.lane_table.specs.Told.{answered, called, looking, looked_at, IsAfterEntry}
use Rattle.lane_core.specs.Machine.{read}
use Rattle.arena_open.specs.declared.cell.Cell.TheVariants as cell
use Rattle.lane_table.specs.Law.{entered}

-- what an entry says, by its kind and its block
pub found_is : (e t : ℕ) (r : MapEntry) (k : Kind) → r ≡ entry_of e t → r.kind ≡ k → found_by k r.block ≡ found_by (kind_in e) (block_in e t)
unfolding kind_in block_in entry_of
found_is e t r k q z = ap (λ k. found_by k r.block) (sym z) ∙ ap (λ (r : MapEntry). found_by r.kind r.block) q

-- what was found tells whether the block has the bytes
pub block_found : (k : Kind) (b c : ℕ) → found_by k b ≡ found.Block c → has_bytes k ≡ true
block_found kind.Zero b c e = cc
block_found kind.Bad b c e = cc
block_found kind.Initial b c e = refl
block_found kind.Normal b c e = refl

pub goes_looking : {S : Type 0} (k : Kind) (n : ℕ) (me : Me S View) → has_bytes k ≡ true → looked_at k n me ≡ looking n me
goes_looking kind.Zero n me e = absurd cc
goes_looking kind.Bad n me e = absurd cc
goes_looking kind.Initial n me e = refl
goes_looking kind.Normal n me e = refl

module _ {S : Type 0} (me me' : Me S View) (b c : Fuse) (old new : List ℕ) (t : Call) (w : ℕ) where
  block_answers : (f : ReadFate) → BlockEnds (looking w (called t me)) me' b c old new f → Answers me me' new t f
  block_answers (fate.Got kk) r = (
    me.0.shape.width + 4,
    w,
    [],
    (
      subst (λ kk. me' ≡ (entered (read me.0.number (calling t me.0.lane) (cell_of_kind kk new)) (record (me.0) { lane = record (answered me.0.number (calling t me.0.lane) (cell_of_kind kk new)) { loaded = w; got = [] }; count = me'.0.count }), me.1)) (sym r.0) r.1.0,
      let q = r.1.1 in omega (arith, q),
    ),
  )
  block_answers (fate.Moved e f) r = tt
  block_answers fate.Cut r = tt

  -- a read of a block, at the seat that found the map word w
  pub block_answered : (seen : Me S View) (f : ReadFate) → has_bytes (kind_in (entry_in w t.sector)) ≡ true → seen ≡ looked_at (kind_in (entry_in w t.sector)) w (called t me) → BlockEnds seen me' b c old new f → Answers me me' new t f
  block_answered seen f h s r = block_answers f (subst (λ seen. BlockEnds seen me' b c old new f) (s ∙ goes_looking (kind_in (entry_in w t.sector)) w (called t me) h) r)

-- a read of a block after the first look, with the steps of both
module _ {S : Type 0} (me me' : Me S View) (a b c : Fuse) (old new : List ℕ) (t : Call) (w : ℕ) (look : Fell 1 a b) where
  fell_on : (n : ℕ) → Fell n b c → Fell (n + 1) a c
  fell_on n f = (f.0 ∙ look.0, λ is. let x = look.1 is in let y = f.1 (look.0 ∙ is) in omega (arith, x, y))

  burnt_on : (n : ℕ) → Burnt n b c → Burnt (n + 1) a c
  burnt_on n f =
      let is : a.set ≡ true = sym look.0 ∙ f.0 in
      let x = look.1 is in (is, f.1, omega (arith, x, f.2), f.3)

  gets_words : (k : Kind) (found : CellKind) → has_bytes k ≡ true → found ≡ cell_kind.Bytes → IsAfterEntry (me.0.shape.width + 4) me (after_read me.0.number (record (calling t me.0.lane) { loaded = w }) new) (read me.0.number (calling t me.0.lane) (cell.Bytes new)) me' → Fell (me.0.shape.width + 4) a c → Gets me me' a c old new t w k found
  gets_words kind.Zero found h is after fell = absurd cc
  gets_words kind.Bad found h is after fell = absurd cc
  gets_words kind.Initial found h is after fell = (is, after, fell)
  gets_words kind.Normal found h is after fell = (is, after, fell)

  ends_on : (f : ReadFate) → has_bytes (kind_in (entry_in w t.sector)) ≡ true → BlockEnds (looking w (called t me)) me' b c old new f → ReadEnds me me' a c old new t f
  ends_on (fate.Got found) h r =
      let q = r.1.1 in
      let x = fell_on (me.0.shape.width + 3) r.2 in (
        w,
        gets_words (kind_in (entry_in w t.sector)) found h r.0 (r.1.0, omega (arith, q)) (subst (λ n. Fell n a c) (omega arith) x),
      )
  ends_on (fate.Moved e f) h r =
      let before : me'.0.count.before ≡ w = r.4 in
      let q = r.3.1 in (
        r.0 ∙ ap (λ n. entry_in n t.sector) (sym before),
        r.1,
        r.2,
        (subst (λ n. me' ≡ (record (me.0) { lane = record (calling t me.0.lane) { phase = Idle; loaded = n }; count = me'.0.count }, me.1)) (sym before) r.3.0, omega (arith, q)),
        r.5,
        fell_on 3 r.6,
      )
  ends_on fate.Cut h r =
      let q = r.3.1 in
      let lt = r.2 in (r.0 + 1, r.1, omega (arith, lt), (r.3.0, omega (arith, q)), r.4, r.5, r.6, burnt_on r.0 r.7)

  pub block_ended : (seen : Me S View) (f : ReadFate) → has_bytes (kind_in (entry_in w t.sector)) ≡ true → seen ≡ looked_at (kind_in (entry_in w t.sector)) w (called t me) → BlockEnds seen me' b c old new f → ReadEnds me me' a c old new t f
  block_ended seen f h s r = ends_on f h (subst (λ seen. BlockEnds seen me' b c old new f) (s ∙ goes_looking (kind_in (entry_in w t.sector)) w (called t me) h) r)
