-- What a request asks of the desk.
use Rattle.std.specs.Prelude.{ℕ, List, Result, Ok, Err}
use Rattle.desk_declare.specs.Declaration.{declaration_of}
use Rattle.desk_declare.specs.declared.declare_fault.DeclareFault.{DeclareFault}
use Rattle.desk_edits.specs.Edit.{edit_of_json}
use Rattle.desk_edits.specs.declared.json_fault.JsonFault.{JsonFault}
use Rattle.desk_http.specs.Rest.{Message}
use Rattle.desk_http.specs.Routes.{route_of}
use Rattle.desk_http.specs.declared.ask.Ask.{Ask}
use Rattle.desk_http.specs.declared.ask.Ask.TheVariants as ask
use Rattle.desk_http.specs.declared.http_fault.HttpFault.{HttpFault}
use Rattle.desk_model.specs.declared.edit.Edit.{Edit}
use Rattle.desk_scratch.specs.declared.question.Question.{Question}
use Rattle.desk_http.specs.Reply.{Reply, with_body}
use Rattle.desk_front.specs.Replies.{bad_declaration_body, bad_edit_body, no_ask}

-- what is asked: a question of the tables, or that an edit is made; or nothing, and then this is the reply, whatever the tables hold
pub data Asked : Type 0 where
  nothing : Reply → Asked
  question : Question → Asked
  edit : Edit → Asked

-- that a question is asked
abbrev pub a_question : Question → Asked
a_question asked = question asked

-- that it is asked to make an edit
abbrev pub an_edit : Edit → Asked
an_edit made = edit made

-- what a body in JSON asks that was read so
abbrev pub of_json : Result Edit JsonFault → Asked
of_json (Ok made) = edit made
of_json (Err cause) = nothing (with_body 400 (bad_edit_body cause))

-- what a body in CSV asks that was read so
abbrev pub of_csv : Result Edit DeclareFault → Asked
of_csv (Ok made) = edit made
of_csv (Err cause) = nothing (with_body 400 (bad_declaration_body cause))

-- what is asked with this body where the route was read so
abbrev pub of_route : List ℕ → Result Ask HttpFault → Asked
of_route body (Ok (ask.Question asked)) = question asked
of_route body (Ok ask.Edit) = of_json (edit_of_json body)
of_route body (Ok ask.Declaration) = of_csv (declaration_of body)
of_route body (Err cause) = nothing (no_ask cause)

-- what a request asks: its route is read first, and then its body
abbrev pub asked_of : Message → Asked
asked_of request = of_route request.body (route_of request.method request.target)
