-- Which acts are the same: those of one kind with the same texts. The scripts of edits aren't compared, so no two edits count as
-- the same, and no two restarts do.
use Rattle.std.specs.Prelude.{ℕ, Bool, true, false, not, ◌&&◌, ◌==◌, Option, Some, None}
use Rattle.std.specs.Cmp.Lexicographic.{pointwise}
use Rattle.std.specs.Str.{bytes_eq}
use Rattle.cfa_acts.specs.declared.acts.Act.{Act}
use Rattle.cfa_acts.specs.declared.acts.Act.TheVariants.{Create, MakeDir, Delete, Content, Copy, Perms, Start, Stop, Enable, Disable}

abbrev pub is_same_mode : (a b : Option ℕ) → Bool
is_same_mode (Some a) (Some b) = a == b
is_same_mode (Some a) None = false
is_same_mode None (Some b) = false
is_same_mode None None = true

abbrev pub is_same_flag : (a b : Bool) → Bool
is_same_flag true b = b
is_same_flag false b = not b

abbrev pub is_same : (act other : Act) → Bool
is_same (Create path) (Create other) = bytes_eq path other
is_same (MakeDir path) (MakeDir other) = bytes_eq path other
is_same (Delete path with_directories) (Delete other with_too) =
    bytes_eq path other && is_same_flag with_directories with_too
is_same (Content path bytes) (Content other content) = bytes_eq path other && bytes_eq bytes content
is_same (Copy source path) (Copy from other) = bytes_eq source from && bytes_eq path other
is_same (Perms path mode owners groups) (Perms other m os gs) =
    bytes_eq path other && (is_same_mode mode m && (pointwise bytes_eq owners os && pointwise bytes_eq groups gs))
is_same (Start name) (Start other) = bytes_eq name other
is_same (Stop name) (Stop other) = bytes_eq name other
is_same (Enable name) (Enable other) = bytes_eq name other
is_same (Disable name) (Disable other) = bytes_eq name other
is_same _ _ = false
