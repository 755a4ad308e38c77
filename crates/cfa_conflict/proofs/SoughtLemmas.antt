-- An act disturbs those alone that look for its target.
use Rattle.std.proofs.Common.{◌≡◌, ℕ, Bool, true, false, ◌||◌, List, Option, Some, None, refl}
use Rattle.std.specs.Str.{bytes_eq}
use Rattle.std.proofs.lemmas.Bool.{false≢true, and_parts}
use Rattle.cfa_base.specs.Index.{Text}
use Rattle.cfa_edits.specs.declared.edits.Edit as edit
use Rattle.cfa_acts.specs.declared.acts.Act.{Act}
use Rattle.cfa_acts.specs.declared.acts.Act.TheVariants.{Create, MakeDir, Delete, Content, Copy, Edit, Perms, Start, Stop, Enable, Disable, Restart, Bust}
use Rattle.cfa_acts.specs.Disturbs.{is_at_or_beneath, puts_beneath, deletes, rewrites, breaks_copy, edits_otherwise, gives_other_perms, starts, stops, enables, disables, disturbs}
use Rattle.cfa_conflict.specs.Targets.{target_of}

-- whether the target passes a test
abbrev pub passes : (Text → Bool) → Option Text → Bool
passes test None = false
passes test (Some target) = test target

-- the targets that an act looks for
abbrev pub seeks : Act → Text → Bool
seeks (Create path) target = bytes_eq path target
seeks (MakeDir path) target = bytes_eq path target
seeks (Delete path with_directories) target = is_at_or_beneath path target
seeks (Content path bytes) target = bytes_eq path target
seeks (Copy source path) target = bytes_eq source target || bytes_eq path target
seeks (Edit path script) target = bytes_eq path target
seeks (Perms path mode owners groups) target = bytes_eq path target
seeks (Start name) target = bytes_eq name target
seeks (Stop name) target = bytes_eq name target
seeks (Enable name) target = bytes_eq name target
seeks (Disable name) target = bytes_eq name target
seeks (Restart name) target = false
seeks (Bust reason) target = false

either_true : (a b : Bool) {P : Type 0} → (a ≡ true → P) → (b ≡ true → P) → (a || b) ≡ true → P
either_true true b f g is = f refl
either_true false b f g is = g is

deletes_target : (path : Text) (b : Act) → deletes path b ≡ true → passes (bytes_eq path) (target_of b) ≡ true
deletes_target path (Delete other _) is = is
deletes_target path _ is = absurd (false≢true is)

puts_target : (path : Text) (b : Act) → puts_beneath path b ≡ true → passes (is_at_or_beneath path) (target_of b) ≡ true
puts_target path (Create other) is = is
puts_target path (MakeDir other) is = is
puts_target path (Content other _) is = is
puts_target path (Copy _ other) is = is
puts_target path _ is = absurd (false≢true is)

rewrites_target : (path bytes : Text) (b : Act) → rewrites path bytes b ≡ true → passes (bytes_eq path) (target_of b) ≡ true
rewrites_target path bytes (Content other content) is = (and_parts (bytes_eq path other) _ is).0
rewrites_target path bytes (Copy _ other) is = is
rewrites_target path bytes (Edit other script) is = (and_parts (bytes_eq path other) _ is).0
rewrites_target path bytes _ is = absurd (false≢true is)

breaks_target : (source path : Text) (b : Act) → breaks_copy source path b ≡ true → passes (λ target. bytes_eq source target || bytes_eq path target) (target_of b) ≡ true
breaks_target source path (Delete other _) is = is
breaks_target source path (Content other _) is = is
breaks_target source path (Copy from other) is = (and_parts (bytes_eq source other || bytes_eq path other) _ is).0
breaks_target source path (Edit other _) is = is
breaks_target source path _ is = absurd (false≢true is)

edits_target : (path : Text) (script : List edit.Edit) (b : Act) → edits_otherwise path script b ≡ true → passes (bytes_eq path) (target_of b) ≡ true
edits_target path script (Content other content) is = (and_parts (bytes_eq path other) _ is).0
edits_target path script (Copy _ other) is = is
edits_target path script (Edit other others) is = (and_parts (bytes_eq path other) _ is).0
edits_target path script _ is = absurd (false≢true is)

perms_target : (path : Text) (mode : Option ℕ) (owners groups : List Text) (b : Act) → gives_other_perms path mode owners groups b ≡ true → passes (bytes_eq path) (target_of b) ≡ true
perms_target path mode owners groups (Perms other m os gs) is = (and_parts (bytes_eq path other) _ is).0
perms_target path mode owners groups _ is = absurd (false≢true is)

starts_target : (name : Text) (b : Act) → starts name b ≡ true → passes (bytes_eq name) (target_of b) ≡ true
starts_target name (Start other) is = is
starts_target name (Restart other) is = is
starts_target name _ is = absurd (false≢true is)

stops_target : (name : Text) (b : Act) → stops name b ≡ true → passes (bytes_eq name) (target_of b) ≡ true
stops_target name (Stop other) is = is
stops_target name _ is = absurd (false≢true is)

enables_target : (name : Text) (b : Act) → enables name b ≡ true → passes (bytes_eq name) (target_of b) ≡ true
enables_target name (Enable other) is = is
enables_target name _ is = absurd (false≢true is)

disables_target : (name : Text) (b : Act) → disables name b ≡ true → passes (bytes_eq name) (target_of b) ≡ true
disables_target name (Disable other) is = is
disables_target name _ is = absurd (false≢true is)

pub disturbs_sought : (b a : Act) → disturbs b a ≡ true → passes (seeks a) (target_of b) ≡ true
unfolding disturbs
disturbs_sought b (Create path) is = deletes_target path b is
disturbs_sought b (MakeDir path) is = deletes_target path b is
disturbs_sought b (Delete path _) is = puts_target path b is
disturbs_sought b (Content path bytes) is = either_true (deletes path b) (rewrites path bytes b) (deletes_target path b) (rewrites_target path bytes b) is
disturbs_sought b (Copy source path) is = breaks_target source path b is
disturbs_sought b (Edit path script) is = either_true (deletes path b) (edits_otherwise path script b) (deletes_target path b) (edits_target path script b) is
disturbs_sought b (Perms path mode owners groups) is =
    either_true (deletes path b) (gives_other_perms path mode owners groups b) (deletes_target path b) (perms_target path mode owners groups b) is
disturbs_sought b (Start name) is = stops_target name b is
disturbs_sought b (Stop name) is = starts_target name b is
disturbs_sought b (Enable name) is = disables_target name b is
disturbs_sought b (Disable name) is = enables_target name b is
disturbs_sought b (Restart _) is = absurd (false≢true is)
disturbs_sought b (Bust _) is = absurd (false≢true is)
