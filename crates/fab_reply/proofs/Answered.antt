-- From what a status says of a text, and from what the source, the sink and the journals tell, to all that is promised.
use Rattle.std.proofs.Common.{◌≡◌, ◌≢◌, ◌≤◌, inl, inr, ℕ, List, [], Option, Some, None, IfSome, refl, subst, arith}
use Rattle.std.proofs.KnownBytes.{Consumes-nil, Keeps-refl}
use Rattle.fab_base.specs.Faults.{Rose}
use Rattle.fab_device.specs.Kept.{Makers}
use Rattle.fab_command.specs.declared.command.Command.{Command}
use Rattle.fab_command.specs.declared.command.Command.TheVariants.{Run}
use Rattle.fab_command.specs.declared.command.Telling.TheVariants.{Summary}
use Rattle.fab_command.specs.declared.task.Task.{Task}
use Rattle.fab_command.specs.declared.task.Task.TheVariants.{Drill, Generate}
use Rattle.fab_gen.specs.Generated.{generated_text}
use Rattle.fab_front.specs.Reading.{TakesAtMost}
use Rattle.fab_front.specs.declared.status.Status.{Status}
use Rattle.fab_front.specs.declared.status.Status.TheVariants.{JournalFault, Memory, ReadFault, Usage, WriteFault}
use Rattle.fab_answers.specs.Says.{MakesRuns}
use Rattle.fab_reply.specs.Answered.{IsAnswered, IsDone}
use Rattle.fab_reply.specs.Reply.{Ends, IsComplete, untouched}
use Rattle.fab_reply.specs.Tasks.{Generates, IsReplied, command_in, input_of, rest_of, task_of}
use Rattle.fab_reply.proofs.Endings.{completely, exactly, fault_of_run, makers_unfailed, none_fails, only_unasked, part_headline, read_whole, usage_comes, whole_headline}
use Rattle.fab_reply.proofs.Fronts.{none_written}

-- of a command and its text, where its status says what it is to say
pub answered : {K M : Type 0} (replied : Type 0) (command : Option Command) (status : Status) (l l' : Option (List ℕ)) (written : K → Option (List ℕ)) (write_faults : K → ℕ)
    (sink sink' : K) (seen : M → Makers) (journals journals' : M) → Ends command status l l' (written sink) (written sink') (seen journals) (seen journals')
    → (status ≡ WriteFault → Rose (write_faults sink) (write_faults sink')) → write_faults sink ≤ write_faults sink'
    → (status ≢ WriteFault → write_faults sink' ≡ write_faults sink) → ((MakesRuns command → ⊥) → journals' ≡ journals)
    → (seen journals).faults ≤ (seen journals').faults → (seen journals').may_fail ≡ (seen journals).may_fail
    → IsAnswered replied command status l l' written write_faults sink sink' seen journals journals'
answered replied command status l l' written write_faults sink sink' seen journals journals' means rose later unfailed same faults told =
    let w = written sink in
    let w' = written sink' in
    let old : Makers = seen journals in
    let new : Makers = seen journals' in
    record {
      means = λ asked. means;
      exact = λ asked. exactly command l l' w w' old new status means;
      complete = completely command l l' w w' old new status means;
      whole = λ asked. read_whole command l l' w w' old new status means;
      write_fault = rose;
      write_fault_front = λ asked is. subst (λ s. Ends command s l l' w w' old new) is means;
      memory = λ asked is. subst (λ s. Ends command s l l' w w' old new) is means;
      sink_faults = later;
      sink_unfailed = unfailed;
      headline = whole_headline command l l' w w' old new status means;
      headline_of_a_part = part_headline command l l' w w' old new status means;
      journal_fault = fault_of_run command l l' w w' old new status means;
      journals_unfailed = makers_unfailed command l l' w w' old new status means;
      journals_unfailing = none_fails command l l' w w' old new status means;
      journals_untouched = same;
      journals_faults = faults;
      journals_told = told;
    }

-- where memory runs out before anything is done
pub nothing_came : {K M : Type 0} (replied : Type 0) (command : Option Command) (l l' : Option (List ℕ)) (written : K → Option (List ℕ)) (write_faults : K → ℕ) (sink : K)
    (seen : M → Makers) (journals : M) → IsAnswered replied command Memory l l' written write_faults sink sink seen journals journals
nothing_came replied command l l' written write_faults sink seen journals =
    answered replied command Memory l l' written write_faults sink sink seen journals journals (inl (Keeps-refl (written sink), untouched refl)) (λ is. absurd (cc)) (omega arith) (λ is. refl)
    (λ none. refl) (omega arith) refl

pub nothing_done : {S K M : Type 0} (task : Option Task) (left : S → Option (List ℕ)) (read_faults : S → ℕ) (source : S) (written : K → Option (List ℕ)) (write_faults : K → ℕ)
    (sink : K) (seen : M → Makers) (journals : M) → IsDone task Memory left read_faults source source written write_faults sink sink seen journals journals
nothing_done task left read_faults source written write_faults sink seen journals =
    record {
      answered = nothing_came (IsReplied task) (command_in task) (input_of task (left source)) (rest_of task (left source)) written write_faults sink seen journals;
      generates = λ number size is. none_written (written sink) (generated_text number size);
      usage = λ none. inr (inl refl);
      usage_only = λ is. absurd (cc);
      unread = λ none. refl;
      taken = ([], Consumes-nil (left source), omega arith);
      read_fault = λ is. absurd (cc);
      read_fault_unwritten = λ is. refl;
      source_faults = omega arith;
      source_unfailed = λ is. refl;
    }

-- of a command of a text that the source has, or of nothing
pub done_of : {S K M : Type 0} (asked : Option Command) (status : Status) (left : S → Option (List ℕ)) (read_faults : S → ℕ) (source source' : S) (written : K → Option (List ℕ))
    (write_faults : K → ℕ) (sink sink' : K) (seen : M → Makers) (journals journals' : M)
    → Ends asked status (left source) (left source') (written sink) (written sink') (seen journals) (seen journals')
    → IsAnswered (Unit {0}) asked status (left source) (left source') written write_faults sink sink' seen journals journals'
    → (status ≡ ReadFault → asked ≢ None) → (asked ≡ None → source' ≡ source) → TakesAtMost 4194305 (left source) (left source')
    → (status ≡ ReadFault → Rose (read_faults source) (read_faults source')) → (status ≡ ReadFault → sink' ≡ sink) → read_faults source ≤ read_faults source'
    → (status ≢ ReadFault → read_faults source' ≡ read_faults source)
    → IsDone (task_of asked) status left read_faults source source' written write_faults sink sink' seen journals journals'
done_of None status left read_faults source source' written write_faults sink sink' seen journals journals' means a was_asked unread taken rose unwritten later unfailed =
    record {
      answered = a;
      generates = λ number size is. absurd (cc);
      usage = λ none. usage_comes None (left source) (left source') (written sink) (written sink') (seen journals) (seen journals') status means was_asked refl;
      usage_only = λ is. refl;
      unread = λ none. unread refl;
      taken = taken;
      read_fault = rose;
      read_fault_unwritten = unwritten;
      source_faults = later;
      source_unfailed = unfailed;
    }
done_of (Some command) status left read_faults source source' written write_faults sink sink' seen journals journals' means a was_asked unread taken rose unwritten later unfailed =
    record {
      answered = a;
      generates = λ number size is. absurd (cc);
      usage = λ none. absurd (cc);
      usage_only = λ is.
          absurd (let none = only_unasked (Some command) (left source) (left source') (written sink) (written sink') (seen journals) (seen journals') status means is in cc);
      unread = λ none. absurd (none tt);
      taken = taken;
      read_fault = rose;
      read_fault_unwritten = unwritten;
      source_faults = later;
      source_unfailed = unfailed;
    }

-- of the text that is made up, where that is what is asked for
none_to_complete : (l : Option (List ℕ)) (status : Status) → IfSome l (IsComplete None status)
none_to_complete None status = tt
none_to_complete (Some text) status = λ s rights x is. absurd (cc)

pub generated : {S K M : Type 0} (number size : ℕ) (status : Status) (left : S → Option (List ℕ)) (read_faults : S → ℕ) (source : S) (written : K → Option (List ℕ))
    (write_faults : K → ℕ) (sink sink' : K) (seen : M → Makers) (journals : M) → Generates number size status (written sink) (written sink')
    → (status ≡ WriteFault → Rose (write_faults sink) (write_faults sink')) → write_faults sink ≤ write_faults sink'
    → (status ≢ WriteFault → write_faults sink' ≡ write_faults sink)
    → IsDone (Some (Generate number size)) status left read_faults source source written write_faults sink sink' seen journals journals
generated number size status left read_faults source written write_faults sink sink' seen journals text rose later unfailed =
    record {
      answered = record {
        means = λ asked. absurd asked;
        exact = λ asked. absurd asked;
        complete = λ other. none_to_complete (left source) status;
        whole = λ asked. absurd asked;
        write_fault = rose;
        write_fault_front = λ asked. absurd asked;
        memory = λ asked. absurd asked;
        sink_faults = later;
        sink_unfailed = unfailed;
        headline = λ makes. absurd makes;
        headline_of_a_part = λ node is. absurd (ends (JournalFault node) is);
        journal_fault = λ node is. absurd (ends (JournalFault node) is);
        journals_unfailed = λ none. refl;
        journals_unfailing = λ none node is. ends (JournalFault node) is;
        journals_untouched = λ none. refl;
        journals_faults = omega arith;
        journals_told = refl;
      };
      generates = same;
      usage = λ none. absurd (cc);
      usage_only = λ is. absurd (ends Usage is);
      unread = λ none. refl;
      taken = ([], Consumes-nil (left source), omega arith);
      read_fault = λ is. absurd (ends ReadFault is);
      read_fault_unwritten = λ is. absurd (ends ReadFault is);
      source_faults = omega arith;
      source_unfailed = λ is. refl;
    }
  where
    ends : (s : Status) → status ≡ s → Generates number size s (written sink) (written sink')
    ends s is = subst (λ s. Generates number size s (written sink) (written sink')) is text

    same : (n m : ℕ) → Some (Generate number size) ≡ Some (Generate n m) → Generates n m status (written sink) (written sink')
    same n m is =
        let one : number ≡ n = cc in
        let other : size ≡ m = cc in
        subst (λ k. Generates k m status (written sink) (written sink')) one (subst (λ k. Generates number k status (written sink) (written sink')) other text)

-- and of the summary of a run of its bundle
pub drilled : {S K M : Type 0} (number size : ℕ) (status : Status) (left : S → Option (List ℕ)) (read_faults : S → ℕ) (source : S) (written : K → Option (List ℕ))
    (write_faults : K → ℕ) (sink sink' : K) (seen : M → Makers) (journals journals' : M)
    → IsAnswered (Unit {0}) (Some (Run Summary)) status (Some (generated_text number size)) (Some []) written write_faults sink sink' seen journals journals'
    → status ≢ ReadFault → status ≢ Usage
    → IsDone (Some (Drill number size)) status left read_faults source source written write_faults sink sink' seen journals journals'
drilled number size status left read_faults source written write_faults sink sink' seen journals journals' a no_fault no_usage =
    record {
      answered = a;
      generates = λ n m is. absurd (cc);
      usage = λ none. absurd (cc);
      usage_only = λ is. absurd (no_usage is);
      unread = λ none. refl;
      taken = ([], Consumes-nil (left source), omega arith);
      read_fault = λ is. absurd (no_fault is);
      read_fault_unwritten = λ is. absurd (no_fault is);
      source_faults = omega arith;
      source_unfailed = λ is. refl;
    }

-- what is promised of a task is promised of whatever is that task, and so it is of texts
pub of_task : {S K M : Type 0} {task other : Option Task} {status : Status} {left : S → Option (List ℕ)} {read_faults : S → ℕ} {source source' : S}
    {written : K → Option (List ℕ)} {write_faults : K → ℕ} {sink sink' : K} {seen : M → Makers} {journals journals' : M} → task ≡ other
    → IsDone task status left read_faults source source' written write_faults sink sink' seen journals journals'
    → IsDone other status left read_faults source source' written write_faults sink sink' seen journals journals'
of_task {status = status} {left = left} {read_faults = read_faults} {source = source} {source' = source'} {written = written} {write_faults = write_faults} {sink = sink} {sink' = sink'}
    {seen = seen} {journals = journals} {journals' = journals'} is done =
    subst (λ t. IsDone t status left read_faults source source' written write_faults sink sink' seen journals journals') is done

pub of_text : {K M : Type 0} {replied : Type 0} {command : Option Command} {status : Status} {text other : List ℕ} {l' : Option (List ℕ)} {written : K → Option (List ℕ)}
    {write_faults : K → ℕ} {sink sink' : K} {seen : M → Makers} {journals journals' : M} → text ≡ other
    → IsAnswered replied command status (Some text) l' written write_faults sink sink' seen journals journals'
    → IsAnswered replied command status (Some other) l' written write_faults sink sink' seen journals journals'
of_text {replied = replied} {command = command} {status = status} {l' = l'} {written = written} {write_faults = write_faults} {sink = sink} {sink' = sink'} {seen = seen}
    {journals = journals} {journals' = journals'} is a =
    subst (λ t. IsAnswered replied command status (Some t) l' written write_faults sink sink' seen journals journals') is a
