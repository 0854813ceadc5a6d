-- Replies: what is told of a request, and the bodies that tell it.
use Rattle.std.specs.Prelude.{ℕ, List, [], ◌∷◌, ◌++◌, Result, Ok, Err, codes}
use Rattle.std.specs.Fmt.{decimal}
use Rattle.desk_declare.specs.Faults.{declare_fault_words}
use Rattle.desk_declare.specs.declared.declare_fault.DeclareFault.{DeclareFault}
use Rattle.desk_edits.specs.Faults.{json_fault_words}
use Rattle.desk_edits.specs.declared.json_fault.JsonFault.{JsonFault}
use Rattle.desk_http.specs.Faults.{http_fault_words}
use Rattle.desk_http.specs.Reply.{Reply, bytes_with, fixed, with_body}
use Rattle.desk_http.specs.Rest.{Message}
use Rattle.desk_http.specs.declared.fixed.Fixed.TheVariants as refusal
use Rattle.desk_http.specs.declared.http_fault.HttpFault.{HttpFault}
use Rattle.desk_http.specs.declared.http_fault.HttpFault.TheVariants as fault
use Rattle.desk_model.specs.Lists.{Lists, number_at}
use Rattle.desk_model.specs.Refusals.{refusal_words}
use Rattle.desk_model.specs.declared.rule_fault.RuleFault.{RuleFault}
use Rattle.desk_scratch.specs.Eval.{eval}
use Rattle.desk_scratch.specs.Faults.{ask_fault_words}
use Rattle.desk_scratch.specs.declared.ask_fault.AskFault.{AskFault}
use Rattle.desk_scratch.specs.declared.question.Question.{Question}

-- the bytes of the reply to a request: the connection ends with it where the request closes
abbrev pub reply_bytes : Message → Reply → List ℕ
reply_bytes request said = bytes_with request.close said

-- the bytes of the replies to requests, each behind the one before
abbrev pub all_bytes : List Message → List Reply → List ℕ
all_bytes (request ∷ requests) (said ∷ replies) = reply_bytes request said ++ all_bytes requests replies
all_bytes [] replies = []
all_bytes (request ∷ requests) [] = []

-- `bad-query KEY`
unfoldable pub bad_query_body : HttpFault → List ℕ
bad_query_body cause = http_fault_words cause ++ codes "\n"

-- the reply to a request that asks nothing
abbrev pub no_ask : HttpFault → Reply
no_ask fault.NoRoute = fixed refusal.NoRoute
no_ask (fault.WrongMethod allow) = fixed (refusal.WrongMethod allow)
no_ask (fault.BadQuery key) = with_body 400 (bad_query_body (fault.BadQuery key))
no_ask fault.OutOfMemory = fixed refusal.Memory

-- `bad-edit ..`, with the fault's words
unfoldable pub bad_edit_body : JsonFault → List ℕ
bad_edit_body cause = codes "bad-edit " ++ json_fault_words cause ++ codes "\n"

-- `bad-declaration ..`, with the fault's words
unfoldable pub bad_declaration_body : DeclareFault → List ℕ
bad_declaration_body cause = codes "bad-declaration " ++ declare_fault_words cause ++ codes "\n"

-- `version N`, the number of the tables, and why the question has no answer at them
unfoldable pub no_answer_body : ℕ → AskFault → List ℕ
no_answer_body number cause = codes "version " ++ decimal number ++ codes "\n" ++ ask_fault_words cause ++ codes "\n"

-- the reply to a question that is evaluated so at these tables
abbrev pub evaluated : Lists → Result (List ℕ) AskFault → Reply
evaluated t (Ok text) = with_body 200 text
evaluated t (Err cause) = with_body 404 (no_answer_body (number_at t) cause)

-- the reply to a question at these tables: its evaluation from scratch
abbrev pub answer_at : Lists → Question → Reply
answer_at t question = evaluated t (eval t question)

-- `version N`, the number of the writer's whole list; `seen M`, that of the longest list that was met before; `accepted K`, the edit's own
unfoldable pub accepted_body : ℕ → ℕ → ℕ → List ℕ
accepted_body whole last_seen number =
    codes "version " ++ decimal whole ++ codes "\nseen " ++ decimal last_seen ++ codes "\naccepted " ++ decimal number ++ codes "\n"

-- `version N` and `seen M` as where an edit is accepted, and `refused ..` with the rule's words
unfoldable pub refused_body : ℕ → ℕ → RuleFault → List ℕ
refused_body whole last_seen cause =
    codes "version " ++ decimal whole ++ codes "\nseen " ++ decimal last_seen ++ codes "\nrefused " ++ refusal_words cause ++ codes "\n"

-- the reply to an edit that is judged so, where the writer's whole list has the first number, and the second was met before
abbrev pub reply_to_edit : ℕ → ℕ → Result ℕ RuleFault → Reply
reply_to_edit whole last_seen (Ok number) = with_body 200 (accepted_body whole last_seen number)
reply_to_edit whole last_seen (Err cause) = with_body 409 (refused_body whole last_seen cause)
