-- The labels that can be written; this project's rule.
use Rattle.std.specs.Prelude.{◌≡◌, ◌^◌, ◌<◌, ◌≤◌, length, None}
use Rattle.nvd_words.specs.Bytes.{AreBytes}
use Rattle.label_codec.specs.declared.label.Label.{Label}
use Rattle.label_codec.specs.Name.{HasNoZero}
use Rattle.label_codec.specs.Sizes.{size_fault_of}

-- what the types don't ensure of a label that can be written: its name has no zero byte, and its sizes aren't odd
pub record IsSound (l : Label) : Type 0 where
  pub no_zero : HasNoZero l.name
  pub sizes : size_fault_of l.dpa l.raw ≡ None

-- the bounds that the types ensure for the numbers
pub record NumbersFit (l : Label) : Type 0 where
  pub flags : l.flags < 2 ^ 32
  pub count : l.count < 2 ^ 16
  pub position : l.position < 2 ^ 16
  pub cookie : l.cookie < 2 ^ 64
  pub lba : l.lba < 2 ^ 64
  pub dpa : l.dpa < 2 ^ 64
  pub raw : l.raw < 2 ^ 64
  pub slot : l.slot < 2 ^ 32
  pub align : l.align < 256
  pub spa_cookie : l.spa_cookie < 2 ^ 64

-- the bounds that the types ensure for the bytes
pub record BytesFit (l : Label) : Type 0 where
  pub uuid_len : length l.uuid ≡ 16
  pub uuid : AreBytes l.uuid
  pub name_len : length l.name ≤ 64
  pub name : AreBytes l.name
  pub kind_len : length l.kind ≡ 16
  pub kind : AreBytes l.kind
  pub abstraction_len : length l.abstraction ≡ 16
  pub abstraction : AreBytes l.abstraction

-- a label that can be written
pub record IsWritable (l : Label) : Type 0 where
  pub sound : IsSound l
  pub numbers : NumbersFit l
  pub bytes : BytesFit l
