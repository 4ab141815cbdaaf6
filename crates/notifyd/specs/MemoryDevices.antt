-- What contracts see of the devices in memory. Each numbers its calls from 1, and fails at the numbers that it lists.
use Rattle.std.specs.Prelude.{ℕ, List, map}
use Rattle.std.specs.Global.{Vec, Global}
use Rattle.std.specs.declared.string.String.{String}
use Rattle.std.specs.String.{string_bytes}
use Rattle.notifyd.specs.Device.{File}

-- a source: the bytes to come, the most that a read gives, the calls that fail, and how many calls and faults there were
pub record Input : Type 0 where
  pub rest : List ℕ
  pub piece : ℕ
  pub failing : List ℕ
  pub calls : ℕ
  pub faults : ℕ

-- a sink: the bytes written, the room that is left, the calls that fail, and how many calls and faults there were
pub record Output : Type 0 where
  pub written : List ℕ
  pub room : ℕ
  pub failing : List ℕ
  pub calls : ℕ
  pub faults : ℕ

-- a spool: the files, the calls that fail, and how many calls and faults there were
pub record Folder : Type 0 where
  pub files : List File
  pub failing : List ℕ
  pub calls : ℕ
  pub faults : ℕ

-- the files that a map from names to bytes holds, in its order
abbrev pub files_of : List (String Global × Vec ℕ) → List File
files_of = map (λ e. (string_bytes e.0, e.1.items))
