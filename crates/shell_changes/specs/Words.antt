-- The commands on namespaces that the words of a command line say.
use Rattle.std.specs.Prelude.{ℕ, if◌then◌else◌, List, option_map, option_and_then, Option, Some, None, codes, unwrap_or}
use Rattle.std.specs.Str.{bytes_eq}
use Rattle.clap.specs.Words.{Row, first_of}
use Rattle.command_words.specs.Parsed.{number_in, optional_number_in, uuid_in}
use Rattle.namespace_map.specs.declared.commands.Command.{Command}
use Rattle.namespace_map.specs.declared.commands.Command.TheVariants.{Delete, Rename}
use Rattle.namespace_map.specs.declared.commands.CreateSpec.{CreateSpec}
use Rattle.namespace_map.specs.declared.commands.Make.{Make}
use Rattle.namespace_map.specs.declared.commands.Make.TheVariants.{Raw, Sector}
use Rattle.namespace_map.specs.Commands.{named_of}

-- the greatest number of a region, and of a size in bytes
abbrev pub last_region : ℕ
last_region = 4294967295

abbrev pub most_bytes : ℕ
most_bytes = 18446744073709551615

-- the bytes of a sector: 512 if the words say none
abbrev pub sector_in : List Row → Option ℕ
sector_in rows = option_map (λ given. unwrap_or given 512) (optional_number_in 0 last_region (codes "sector") rows)

-- how many lanes: 256 if the words don't say
abbrev pub lanes_in : List Row → Option ℕ
lanes_in rows = option_map (λ given. unwrap_or given 256) (optional_number_in 1 256 (codes "lanes") rows)

-- what a word of `--mode` asks for
abbrev pub make_of : List ℕ → ℕ → ℕ → Option Make
make_of word sector lanes = if bytes_eq word (codes "raw") then Some Raw else if bytes_eq word (codes "sector") then Some (Sector sector lanes) else None

-- `--sector B` and `--lanes N` are of their kinds in either mode
abbrev pub make_in : List Row → Option Make
make_in rows =
    option_and_then (λ sector. option_and_then (λ lanes. option_and_then (λ word. make_of word sector lanes) (first_of (codes "mode") rows)) (lanes_in rows)) (sector_in rows)

-- create --uuid U --name T --region R --size B --mode raw, or --mode sector with --sector B and --lanes N
abbrev pub create_in : List Row → Option CreateSpec
create_in rows =
    option_and_then (λ uuid.
    option_and_then (λ name.
    option_and_then (λ region.
    option_and_then (λ size.
    option_map (λ made. record { uuid = uuid; name = named_of name; region = region; size = size; make = made })
    (make_in rows))
    (number_in 0 most_bytes (codes "size") rows))
    (number_in 0 last_region (codes "region") rows))
    (first_of (codes "name") rows))
    (uuid_in (codes "uuid") rows)

-- delete UUID
abbrev pub delete_in : List Row → Option Command
delete_in rows = option_map (λ uuid. Delete uuid) (uuid_in (codes "uuid") rows)

-- rename UUID NAME
abbrev pub rename_in : List Row → Option Command
rename_in rows = option_and_then (λ uuid. option_map (λ name. Rename uuid (named_of name)) (first_of (codes "name") rows)) (uuid_in (codes "uuid") rows)
