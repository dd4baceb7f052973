-- The program as `clap` reads it.
use Rattle.std.proofs.Common.{◌≡◌, refl, true}
use Rattle.clap.specs.Simple.{is_simple}
use Rattle.clap.specs.Faults.{is_simple_and_free}
use Rattle.command_words.specs.CommandLine.{program_app}

-- the program is one of which `clap` gives the matches
pub program_simple : is_simple program_app ≡ true
program_simple = refl

pub program_free : is_simple_and_free program_app ≡ true
program_free = refl
