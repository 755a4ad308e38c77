-- A line edit asks for a file that its script leaves as it is: a text within the limit of a file whose lines the script
-- leaves. Else the text that the script makes is put, if the script leaves that one in turn. So what is edited again is the
-- text that would be written, line by line as the next run would read it.
use Rattle.std.specs.Prelude.{ℕ, List, length, Bool, false, ◌&&◌, nat_le, if◌then◌else◌, Option, Some, None, Result, Ok, Err}
use Rattle.std.specs.Cmp.Lexicographic.{pointwise}
use Rattle.std.specs.Str.{bytes_eq, is_utf8}
use Rattle.cfa_base.specs.declared.limits.TheConstants.{MOST_FILE_BYTES}
use Rattle.cfa_lines.specs.Decks.{lines_of, text_of}
use Rattle.cfa_edits.specs.declared.edits.Edit.{Edit}
use Rattle.cfa_edits.specs.declared.edits.EditErr.{EditErr}
use Rattle.cfa_edits.specs.declared.edits.EditErr.TheVariants as refusal
use Rattle.cfa_edits.specs.Edits.{Lines, edited}
use Rattle.cfa_outside.specs.declared.worlds.Node.{Node}
use Rattle.cfa_outside.specs.declared.worlds.Node.TheVariants.{File, Dir}
use Rattle.cfa_outside.specs.declared.sites.Change.TheVariants.{PutFile}
use Rattle.cfa_acts.specs.declared.acts.Reason.{Reason}
use Rattle.cfa_acts.specs.declared.acts.Reason.TheVariants as reason
use Rattle.cfa_acts.specs.declared.acts.Decision.{Decision}
use Rattle.cfa_acts.specs.declared.acts.Decision.TheVariants.{Needs, Fail}

-- within the limit of a file
abbrev pub is_short : List ℕ → Bool
is_short text = nat_le (length text) MOST_FILE_BYTES

-- what edits made of lines is these lines again; a refusal isn't
abbrev pub are_left : Result Lines EditErr → Lines → Bool
are_left (Ok left) lines = pointwise bytes_eq left lines
are_left (Err _) lines = false

-- a text in UTF-8 whose lines the script leaves, whether or not a newline ends the last one
unfoldable pub leaves : List Edit → List ℕ → Bool
leaves script text = is_utf8 text && are_left (edited script (lines_of text)) (lines_of text)

-- a file within the limit that the script leaves
abbrev pub is_settled : List Edit → Option Node → Bool
is_settled script (Some (File text _)) = is_short text && leaves script text
is_settled script (Some (Dir _)) = false
is_settled script None = false

-- why edits were refused; they are never refused for want of memory
abbrev pub refusal_of : EditErr → Reason
refusal_of refusal.NoAnchor = reason.NoAnchor
refusal_of refusal.FieldCount = reason.FieldCount
refusal_of refusal.NoMemory = reason.NoAnchor

-- the text is put if the script leaves it, and it is within the limit
abbrev pub puts_text : List ℕ → List Edit → List ℕ → Decision
puts_text path script text =
    if leaves script text
    then (if is_short text then Needs (PutFile path text) else Fail reason.TooLong)
    else Fail reason.NonConvergent

-- the text of the lines that the edits made
abbrev pub puts_lines : List ℕ → List Edit → Result Lines EditErr → Decision
puts_lines path script (Err refused) = Fail (refusal_of refused)
puts_lines path script (Ok left) = puts_text path script (text_of left)

-- the file has to be there, no directory, within the limit and in UTF-8, in this order
abbrev pub edits : List ℕ → List Edit → Option Node → Decision
edits path script None = Fail reason.Missing
edits path script (Some (Dir _)) = Fail reason.Obstructed
edits path script (Some (File text _)) =
    if is_short text
    then (if is_utf8 text
    then puts_lines path script (edited script (lines_of text))
    else Fail reason.NotText)
    else Fail reason.TooLong

-- the script leaves the content, and the text of its lines is within the limit
unfoldable pub keeps_content : List Edit → List ℕ → Bool
keeps_content script content = leaves script content && is_short (text_of (lines_of content))
