-- New permissions leave a directory a directory, and a file a file.
use Rattle.std.proofs.Common.{◌≡◌, Some, refl}
use Rattle.cfa_outside.specs.declared.worlds.Node.{Node}
use Rattle.cfa_outside.specs.declared.worlds.Node.TheVariants.{File, Dir}
use Rattle.cfa_outside.specs.declared.worlds.Perms.{Perms}
use Rattle.cfa_outside.specs.Worlds.{is_directory, with_perms}

pub set_directory : (perms : Perms) (n : Node) → is_directory (Some (with_perms perms n)) ≡ is_directory (Some n)
set_directory perms (File _ _) = refl
set_directory perms (Dir _) = refl
