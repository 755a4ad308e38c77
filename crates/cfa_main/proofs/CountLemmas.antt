-- What is known of a sink's count of faults: it stands, unless a put failed and that ended the work.
use Rattle.std.proofs.Common.{◌≡◌, inl, inr, ℕ, List, Option, Some, None, Result, Ok, Err, ap, ◌∙◌}
use Rattle.cfa_base.specs.Shown.{Shown, Untouched}
use Rattle.cfa_outside.specs.Inputs.{Library}
use Rattle.cfa_outside.specs.Sites.{Told}
use Rattle.cfa_output.specs.declared.ends.Object.TheVariants.{Inputs, Site, Sink}
use Rattle.cfa_output.specs.declared.ends.Stop.{Stop}
use Rattle.cfa_output.specs.declared.ends.Stop.TheVariants.{Outside, Memory, Visits, Pattern}
use Rattle.cfa_output.specs.declared.ends.Failure.{Failure}
use Rattle.cfa_output.specs.declared.ends.Failure.TheVariants.{Refused, Stopped}
use Rattle.cfa_output.specs.Lines.{memory_line, stop_line}
use Rattle.cfa_states.specs.Views.{Setting}
use Rattle.cfa_agent.specs.Ran.{StopsRun}
use Rattle.cfa_conflict.specs.declared.verdicts.Verdict.{Verdict}
use Rattle.cfa_main.specs.declared.demonstrating.CountedRun.{CountedRun}
use Rattle.cfa_main.specs.declared.ends.End.{End}
use Rattle.cfa_main.specs.Done.{HasFault}
use Rattle.cfa_main.specs.Demos as demos
use Rattle.cfa_main.specs.Demos.{StopsOnce, SecondIsTold, RunsAgain, FirstIsTold, RunsTwice, IsShown, IsPerformed, Demonstrates, CalledFor, a_demo, no_demo, unread}
use Rattle.cfa_main.specs.Ends.{IsEnd}
use Rattle.cfa_main.specs.Stages.{StopsPutting, VerdictPut, PutsEnd, PutsStop, PutsFailure, status_of_stop, Called, not_prepared, ended, stopped_at_work}
use Rattle.cfa_main.proofs.CallLemmas as calls
use Rattle.cfa_main.proofs.Told.{fault_along}
use Rattle.cfa_main.proofs.WorkLemmas.{work_stop, work_calm}

-- ---- the count by how work ended

abbrev pub Stands : (out out' : Shown (List ℕ)) → Type 0
Stands out out' = out'.faults ≡ out.faults

abbrev pub CountsPuts : (out out' : Shown (List ℕ)) → Result End Stop → Type 0
CountsPuts out out' (Ok end) = Stands out out'
CountsPuts out out' (Err (Outside Inputs)) = Stands out out'
CountsPuts out out' (Err (Outside Site)) = Stands out out'
CountsPuts out out' (Err (Outside Sink)) = HasFault out out'
CountsPuts out out' (Err Memory) = Stands out out'
CountsPuts out out' (Err Visits) = Stands out out'
CountsPuts out out' (Err (Pattern text)) = Stands out out'

-- behind puts of which none failed
counts_behind : (out mid out' : Shown (List ℕ)) (result : Result End Stop) → Stands out mid → CountsPuts mid out' result → CountsPuts out out' result
counts_behind out mid out' (Ok end) same h = h ∙ same
counts_behind out mid out' (Err (Outside Inputs)) same h = h ∙ same
counts_behind out mid out' (Err (Outside Site)) same h = h ∙ same
counts_behind out mid out' (Err (Outside Sink)) same h = fault_along out mid out' same h
counts_behind out mid out' (Err Memory) same h = h ∙ same
counts_behind out mid out' (Err Visits) same h = h ∙ same
counts_behind out mid out' (Err (Pattern text)) same h = h ∙ same

pub still : (out out' : Shown (List ℕ)) → Untouched out out' → Stands out out'
still out out' un = ap (λ (s : Shown (List ℕ)). s.faults) un

putting : (IsText : List ℕ → Type 0) → (out out' : Shown (List ℕ)) (stop : Stop) → StopsPutting IsText out out' stop → CountsPuts out out' (Err stop)
putting IsText out out' (Outside Inputs) h = absurd h
putting IsText out out' (Outside Site) h = absurd h
putting IsText out out' (Outside Sink) h = h.2.failed.rose
putting IsText out out' Memory h = still out out' h
putting IsText out out' Visits h = absurd h
putting IsText out out' (Pattern text) h = absurd h

-- ---- a demo

verdict_counts : (verdict : Verdict) (out out' : Shown (List ℕ)) (result : Result End Stop) → VerdictPut verdict out out' result → CountsPuts out out' result
verdict_counts verdict out out' (Ok end) h = ap (λ (s : Shown (List ℕ)). s.faults) h.put.1
verdict_counts verdict out out' (Err stop) h = putting _ out out' stop h.stopped

module _ (Tells : Type 0) (setting : Setting) (number moment : ℕ) where
  running : (site site' : Shown Told) (out out' : Shown (List ℕ)) (stop : Stop) → StopsOnce setting moment site site' stop → Untouched out out' → CountsPuts out out' (Err stop)
  running site site' out out' (Outside Inputs) h un = absurd h
  running site site' out out' (Outside Site) h un = still out out' un
  running site site' out out' (Outside Sink) h un = absurd h
  running site site' out out' Memory h un = still out out' un
  running site site' out out' Visits h un = still out out' un
  running site site' out out' (Pattern text) h un = absurd h

  second_counts : (live : ℕ) (run : CountedRun) (out out' : Shown (List ℕ)) (result : Result End Stop) → SecondIsTold live run out out' result → CountsPuts out out' result
  second_counts live run out out' _ (demos.told put) = ap (λ (s : Shown (List ℕ)). s.faults) put
  second_counts live run out out' _ (demos.not_told {stop = stop} stops) = putting _ out out' stop stops

  again_counts : (live : ℕ) (site site' : Shown Told) (out out' : Shown (List ℕ)) (result : Result End Stop) → RunsAgain setting moment live site site' out out' result → CountsPuts out out' result
  again_counts live site site' out out' result (demos.ran_again second ran tells) = second_counts live second out out' result tells
  again_counts live site site' out out' _ (demos.stopped_again {stop = stop} stops un) = running site site' out out' stop stops un

  first_counts : (live : ℕ) (run : CountedRun) (site site' : Shown Told) (out out' : Shown (List ℕ)) (result : Result End Stop) →
      FirstIsTold setting moment live run site site' out out' result → CountsPuts out out' result
  first_counts live run site site' out out' result (demos.first_told mid put runs) =
      counts_behind out mid out' result (ap (λ (s : Shown (List ℕ)). s.faults) put) (again_counts live site site' mid out' result runs)
  first_counts live run site site' out out' _ (demos.first_not_told {stop = stop} un stops) = putting _ out out' stop stops

  twice_counts : (live : ℕ) (site site' : Shown Told) (out out' : Shown (List ℕ)) (result : Result End Stop) → RunsTwice Tells setting moment live site site' out out' result → CountsPuts out out' result
  twice_counts live site site' out out' result (demos.ran_first mid first between ran told) = first_counts live first mid site' out out' result told
  twice_counts live site site' out out' _ (demos.stopped_first {stop = stop} stops un) = running site site' out out' stop stops un

  shown_counts : (live : ℕ) (site site' : Shown Told) (out out' : Shown (List ℕ)) (result : Result End Stop) → IsShown Tells setting number moment live site site' out out' result → CountsPuts out out' result
  shown_counts live site site' out out' result (demos.begun mid put runs) =
      counts_behind out mid out' result (ap (λ (s : Shown (List ℕ)). s.faults) put) (twice_counts live site site' mid out' result runs)
  shown_counts live site site' out out' _ (demos.not_begun {stop = stop} un stops) = putting _ out out' stop stops

  pub demo_counts : (site site' : Shown Told) (out out' : Shown (List ℕ)) (result : Result End Stop) → IsPerformed Tells setting number moment site site' out out' result → CountsPuts out out' result
  demo_counts site site' out out' result (demos.accepted live is runs) = shown_counts live site site' out out' result runs
  demo_counts site site' out out' result (demos.in_conflict c is un put) = verdict_counts _ out out' result put
  demo_counts site site' out out' _ (demos.too_large is un un') = still out out' un'
  demo_counts site site' out out' _ (demos.without_memory un un') = still out out' un'

-- ---- a call

abbrev IsNotFour : (status : ℕ) → Type 0
IsNotFour status = status ≡ 4 → ⊥

-- the line of a stop or of a refusal is put, unless a put fails
line_calm : (line : List ℕ) (status : ℕ) (out out' : Shown (List ℕ)) (n : ℕ) → PutsEnd line status out out' n → IsNotFour n → Stands out out'
line_calm line status out out' n (inl puts) other = ap (λ (s : Shown (List ℕ)). s.faults) puts.1
line_calm line status out out' n (inr puts) other = absurd (other puts.0)

puts_calm : (line : Option (List ℕ)) (status : ℕ) (out out' : Shown (List ℕ)) (n : ℕ) → PutsStop line status out out' n → IsNotFour n → Stands out out'
puts_calm None status out out' n puts other = still out out' puts.1
puts_calm (Some line) status out out' n puts other = line_calm line status out out' n puts other

failure_calm : (failure : Failure) (out out' : Shown (List ℕ)) (n : ℕ) → PutsFailure failure out out' n → IsNotFour n → Stands out out'
failure_calm (Refused line) out out' n puts other = line_calm line 1 out out' n puts other
failure_calm (Stopped stop) out out' n puts other = puts_calm (stop_line stop) (status_of_stop stop) out out' n puts other

-- behind work that was stopped
stop_calm : (stop : Stop) (out mid out' : Shown (List ℕ)) (n : ℕ) → CountsPuts out mid (Err stop) → PutsStop (stop_line stop) (status_of_stop stop) mid out' n → IsNotFour n → Stands out out'
stop_calm (Outside Inputs) out mid out' n counts puts other = line_calm _ _ mid out' n puts other ∙ counts
stop_calm (Outside Site) out mid out' n counts puts other = line_calm _ _ mid out' n puts other ∙ counts
stop_calm (Outside Sink) out mid out' n counts puts other = absurd (other puts.0)
stop_calm Memory out mid out' n counts puts other = line_calm _ _ mid out' n puts other ∙ counts
stop_calm Visits out mid out' n counts puts other = line_calm _ _ mid out' n puts other ∙ counts
stop_calm (Pattern text) out mid out' n counts puts other = line_calm _ _ mid out' n puts other ∙ counts

run_counts : (site site' : Shown Told) (out out' : Shown (List ℕ)) (stop : Stop) → StopsRun site site' out out' stop → CountsPuts out out' (Err stop)
run_counts site site' out out' (Outside Inputs) h = absurd h
run_counts site site' out out' (Outside Site) h = h.1
run_counts site site' out out' (Outside Sink) h = h
run_counts site site' out out' Memory h = h
run_counts site site' out out' Visits h = h
run_counts site site' out out' (Pattern text) h = h

module _ (Tells : Type 0) (words : List (List ℕ)) (moment : ℕ) (inputs inputs' : Shown Library) (site site' : Shown Told) (out out' : Shown (List ℕ)) (pats pats' : Shown (List (List ℕ))) (status : ℕ) where
  call_calm : Called words moment inputs inputs' site site' out out' pats pats' status → IsNotFour status → Stands out out'
  call_calm (not_prepared {failure = failure} p un puts) other = failure_calm failure out out' status puts other
  call_calm (ended {work = work} end p performed is) other = work_calm moment site site' out out' pats pats' work end performed
  call_calm (stopped_at_work {work = work} stop mid p performed puts) other =
      stop_calm stop out mid out' status (run_counts site site' out mid stop (work_stop moment site site' out mid pats pats' work stop performed)) puts other

  demo_calm : (number : ℕ) → Demonstrates Tells number moment site site' out out' status → IsNotFour status → Stands out out'
  demo_calm number (demos.no_memory un puts) other = line_calm memory_line 5 out out' status puts other
  demo_calm number (demos.late failure late is un puts) other = failure_calm failure out out' status puts other
  demo_calm number (demos.not_taken failure also fails un puts) other = failure_calm failure out out' status puts other
  demo_calm number (demos.ended {setting = setting} end also takes done is) other = demo_counts Tells setting number moment site site' out out' (Ok end) done
  demo_calm number (demos.stopped {setting = setting} stop mid also takes done puts) other =
      stop_calm stop out mid out' status (demo_counts Tells setting number moment site site' out mid (Err stop) done) puts other

  abbrev Here : Type 0
  Here = CalledFor Tells words moment inputs inputs' site site' out out' pats pats' status

  pub calm : Here → IsNotFour status → Stands out out'
  calm (a_demo {number = number} asks un kept demo) other = demo_calm number demo other
  calm (no_demo none called) other = call_calm called other
  calm (unread un un' kept puts) other = line_calm memory_line 5 out out' status puts other

  pub read_whole : Here → IsEnd status → Untouched inputs inputs'
  read_whole (a_demo asks un kept demo) end = un
  read_whole (no_demo none called) end = calls.read_whole words moment inputs inputs' site site' out out' pats pats' status called end
  read_whole (unread un un' kept puts) end = un
