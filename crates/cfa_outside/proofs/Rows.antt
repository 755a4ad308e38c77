-- The definitions at hand-made rows.
use Rattle.std.proofs.Common.{◌≡◌, [], ◌∷◌, Some, None, true, false, refl}
use Rattle.std.specs.Prelude.{codes}
use Rattle.cfa_outside.specs.Paths.{path_of}
use Rattle.cfa_outside.specs.Worlds.{above, is_below}

named : path_of (codes "/etc/motd") ≡ Some (codes "/etc/motd")
unfolding path_of
named = refl

slashes_count_as_one : path_of (codes "//a///b") ≡ Some (codes "/a/b")
unfolding path_of
slashes_count_as_one = refl

three_dots : path_of (codes "/...") ≡ Some (codes "/...")
unfolding path_of
three_dots = refl

the_root : path_of (codes "/") ≡ None
unfolding path_of
the_root = refl

nothing : path_of [] ≡ None
unfolding path_of
nothing = refl

not_from_the_root : path_of (codes "a/b") ≡ None
unfolding path_of
not_from_the_root = refl

trailing_slash : path_of (codes "/a/") ≡ None
unfolding path_of
trailing_slash = refl

one_dot : path_of (codes "/a/./b") ≡ None
unfolding path_of
one_dot = refl

two_dots : path_of (codes "/..") ≡ None
unfolding path_of
two_dots = refl

zero_byte : path_of (47 ∷ 97 ∷ 0 ∷ []) ≡ None
unfolding path_of
zero_byte = refl

above_three : above (codes "/a/b/c") ≡ codes "/a" ∷ codes "/a/b" ∷ []
unfolding above
above_three = refl

above_one : above (codes "/a") ≡ []
unfolding above
above_one = refl

below : is_below (codes "/a") (codes "/a/b") ≡ true
unfolding is_below
below = refl

beside : is_below (codes "/a") (codes "/a0") ≡ false
unfolding is_below
beside = refl
