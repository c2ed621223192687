-- "The largest net sheet is 35,083 bytes."; of version 2 it is 31,498: none is longer, and one of each, of bytes, is as long.
use Rattle.std.specs.Prelude.{ℕ, ◌≤◌, ◌≡◌, List, length}
use Rattle.std.proofs.Math.Option.{none}
use Rattle.model.specs.declared.Version.{Version}
use Rattle.heads.specs.Version.{version_of}
use Rattle.heads.specs.Layout.{sheet_end}
use Rattle.sheets.specs.nets.Nets.{net_refusal}
use Rattle.sheets.specs.Whole.{whole_net}
use Rattle.sheets.specs.written.Promises.{largest_of}
use Rattle.sentences.specs.Bytes.{Bytes}

pub record Largest : Type 0 where
  pub most : (s : List ℕ) → net_refusal s ≡ none → sheet_end s ≤ largest_of (version_of s)
  pub reached : (v : Version) → (s : List ℕ) × (Bytes s) × (version_of s ≡ v) × (whole_net s ≡ none) × (length s ≡ largest_of v)
