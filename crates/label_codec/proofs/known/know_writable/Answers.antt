use Rattle.std.proofs.Common.{◌≡◌, ◌-◌, ◌++◌, ◌≤◌, ℕ, List, subst, refl, length, replicate, arith}
use Rattle.std.proofs.lemmas.List.{length-append, take_at}
use Rattle.nvd_words.specs.Bytes.{AreBytes}
use Rattle.nvd_words.proofs.ByteLists.{take_bytes}
use Rattle.label_codec.proofs.known.know_writable.Goals as goal

-- a name that is followed by zeros in its field is bytes, at most as many as the field
front_bytes : (name zeros : List ℕ) → AreBytes (name ++ zeros) → AreBytes name
front_bytes name zeros all = subst AreBytes (take_at name zeros (length name) refl) (take_bytes (length name) (name ++ zeros) all)

short : (name : List ℕ) → length (name ++ replicate (64 - length name) 0) ≡ 64 → length name ≤ 64
short name len = omega (arith, len, length-append name (replicate (64 - length name) 0))

pub returns : goal.returns
returns c =
    let name = c.args.label.now.name in
    record {
      sound = record { no_zero = c.requires.no_zero; sizes = c.requires.sizes };
      numbers = record {
        flags = c.know_numbers_of_set.ensures.flags;
        count = c.know_numbers_of_set.ensures.count;
        position = c.know_numbers_of_set.ensures.position;
        cookie = c.know_numbers_of_set.ensures.cookie;
        lba = c.know_numbers_of_set.ensures.lba;
        dpa = c.know_numbers_of_part.ensures.dpa;
        raw = c.know_numbers_of_part.ensures.raw;
        slot = c.know_numbers_of_part.ensures.slot;
        align = c.know_numbers_of_part.ensures.align;
        spa_cookie = c.know_numbers_of_part.ensures.spa_cookie;
      };
      bytes = record {
        uuid_len = subst (λ (xs : List ℕ). length xs ≡ 16) c.as_bytes.ensures c.know_sixteen.ensures.len;
        uuid = subst AreBytes c.as_bytes.ensures c.know_sixteen.ensures.fit;
        kind_len = subst (λ (xs : List ℕ). length xs ≡ 16) c.as_bytes-2.ensures c.know_sixteen-2.ensures.len;
        kind = subst AreBytes c.as_bytes-2.ensures c.know_sixteen-2.ensures.fit;
        abstraction_len = subst (λ (xs : List ℕ). length xs ≡ 16) c.as_bytes-3.ensures c.know_sixteen-3.ensures.len;
        abstraction = subst AreBytes c.as_bytes-3.ensures c.know_sixteen-3.ensures.fit;
        name_len = short name (subst (λ (xs : List ℕ). length xs ≡ 64) c.field.ensures c.know_field.ensures.len);
        name = front_bytes name (replicate (64 - length name) 0) (subst AreBytes c.field.ensures c.know_field.ensures.fit);
      };
    }
