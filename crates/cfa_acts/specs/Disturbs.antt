-- Which act disturbs which: the later act may undo what the earlier one asks for.
use Rattle.std.specs.Prelude.{ℕ, List, length, Bool, false, not, ◌||◌, ◌&&◌, ◌==◌, Option, Some, None}
use Rattle.std.specs.Cmp.Lexicographic.{pointwise}
use Rattle.std.specs.Str.{bytes_eq}
use Rattle.cfa_outside.specs.Worlds.{is_below}
use Rattle.cfa_edits.specs.declared.edits.Edit as edit
use Rattle.cfa_edits.specs.Scripts.{script_text}
use Rattle.cfa_acts.specs.declared.acts.Act.{Act}
use Rattle.cfa_acts.specs.Settling.{keeps_content}
use Rattle.cfa_acts.specs.declared.acts.Act.TheVariants.{Create, MakeDir, Delete, Content, Copy, Edit, Perms, Start, Stop, Enable, Disable, Restart, Bust}

-- the other path is this one, or begins with it and a slash
abbrev pub is_at_or_beneath : List ℕ → List ℕ → Bool
is_at_or_beneath path other = bytes_eq path other || is_below path other

-- it puts a file or a directory at the path or beneath
abbrev pub puts_beneath : List ℕ → Act → Bool
puts_beneath path (Create other) = is_at_or_beneath path other
puts_beneath path (MakeDir other) = is_at_or_beneath path other
puts_beneath path (Content other _) = is_at_or_beneath path other
puts_beneath path (Copy _ other) = is_at_or_beneath path other
puts_beneath path _ = false

-- it deletes what stands at the path
abbrev pub deletes : List ℕ → Act → Bool
deletes path (Delete other _) = bytes_eq path other
deletes path _ = false

-- it gives the file at the path other bytes, or those of a source, or its script doesn't leave these bytes
abbrev pub rewrites : (path bytes : List ℕ) → Act → Bool
rewrites path bytes (Content other content) = bytes_eq path other && not (bytes_eq bytes content)
rewrites path bytes (Copy _ other) = bytes_eq path other
rewrites path bytes (Edit other script) = bytes_eq path other && not (keeps_content script bytes)
rewrites path bytes _ = false

-- it changes the source or the copy, and isn't the same copy
abbrev pub breaks_copy : (source path : List ℕ) → Act → Bool
breaks_copy source path (Delete other _) = bytes_eq source other || bytes_eq path other
breaks_copy source path (Content other _) = bytes_eq source other || bytes_eq path other
breaks_copy source path (Copy from other) =
    (bytes_eq source other || bytes_eq path other)
    && not (bytes_eq source from && bytes_eq path other)
breaks_copy source path (Edit other _) = bytes_eq source other || bytes_eq path other
breaks_copy source path _ = false

-- it gives the file at the path bytes that the script doesn't leave, or those of a source, or has a script with another
-- text
abbrev pub edits_otherwise : List ℕ → List edit.Edit → Act → Bool
edits_otherwise path script (Content other content) = bytes_eq path other && not (keeps_content script content)
edits_otherwise path script (Copy _ other) = bytes_eq path other
edits_otherwise path script (Edit other others) =
    bytes_eq path other && not (bytes_eq (script_text script) (script_text others))
edits_otherwise path script _ = false

-- both modes are given, and they differ
abbrev pub modes_differ : (a b : Option ℕ) → Bool
modes_differ (Some a) (Some b) = not (a == b)
modes_differ (Some a) None = false
modes_differ None b = false

-- both lists are given, and they differ
abbrev pub lists_differ : (a b : List (List ℕ)) → Bool
lists_differ a b = not (length a == 0) && (not (length b == 0) && not (pointwise bytes_eq a b))

-- it gives other permissions at the path
abbrev pub gives_other_perms : List ℕ → Option ℕ → (owners groups : List (List ℕ)) → Act → Bool
gives_other_perms path mode owners groups (Perms other m os gs) =
    bytes_eq path other
    && (modes_differ mode m || (lists_differ owners os || lists_differ groups gs))
gives_other_perms path mode owners groups _ = false

abbrev pub starts : List ℕ → Act → Bool
starts name (Start other) = bytes_eq name other
starts name (Restart other) = bytes_eq name other
starts name _ = false

abbrev pub stops : List ℕ → Act → Bool
stops name (Stop other) = bytes_eq name other
stops name _ = false

abbrev pub enables : List ℕ → Act → Bool
enables name (Enable other) = bytes_eq name other
enables name _ = false

abbrev pub disables : List ℕ → Act → Bool
disables name (Disable other) = bytes_eq name other
disables name _ = false

-- by the earlier act
unfoldable pub disturbs : (later earlier : Act) → Bool
disturbs later (Create path) = deletes path later
disturbs later (MakeDir path) = deletes path later
disturbs later (Delete path _) = puts_beneath path later
disturbs later (Content path bytes) = deletes path later || rewrites path bytes later
disturbs later (Copy source path) = breaks_copy source path later
disturbs later (Edit path script) = deletes path later || edits_otherwise path script later
disturbs later (Perms path mode owners groups) =
    deletes path later || gives_other_perms path mode owners groups later
disturbs later (Start name) = stops name later
disturbs later (Stop name) = starts name later
disturbs later (Enable name) = disables name later
disturbs later (Disable name) = enables name later
disturbs later (Restart _) = false
disturbs later (Bust _) = false

-- one is an edit and the other a content, the one pair that is compared by making lines
abbrev pub AreEditAndContent : (later earlier : Act) → Type 0
AreEditAndContent (Edit _ _) (Content _ _) = Unit {0}
AreEditAndContent (Content _ _) (Edit _ _) = Unit {0}
AreEditAndContent _ _ = ⊥
