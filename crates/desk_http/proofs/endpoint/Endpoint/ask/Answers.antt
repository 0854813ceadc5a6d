-- Each path asks by its query.
use Rattle.std.proofs.Common.{◌≡◌, ◌∙◌, [], drop, rules, sym}
use Rattle.desk_scratch.specs.declared.question.Question.TheVariants.{Material, Rohs, Reach33, Reach7, Part, Uses, Summary, Version}
use Rattle.desk_http.specs.declared.ask.Ask.TheVariants.{Question}
use Rattle.desk_http.specs.Endpoints.{row_place}
use Rattle.desk_http.specs.Fields.{by_day, by_kind_and_day, by_nothing}
use Rattle.desk_http.specs.Routes.{asked_by, code_in, year_in}
use Rattle.desk_http.proofs.AskLemmas.{on_end, on_found}
use Rattle.desk_http.proofs.endpoint.Endpoint.ask.Goals as goal
use Rattle.desk_http.proofs.endpoint.Endpoint.ask.Goals.{in-Material+in_ok-code-in-Material+in_ok-kind-in-Material, in-Rohs+in_ok-code_behind-in-Rohs+in_ok-day_alone-in-Rohs, in-Article33+in_ok-code_behind-in-Article33+in_ok-day_alone-in-Article33, in-Article7+in_ok-year_behind-in-Article7+in_ok-day_alone-in-Article7, in-Part+in_ok-code-in-Part+in_ok-nothing-in-Part, in-Uses+in_ok-code-in-Uses+in_ok-nothing-in-Uses, in-Summary+in_ok-nothing_behind-in-Summary+in_ok-day-in-Summary, in-Version+in_ok-nothing_behind-in-Version+in_ok-nothing-in-Version}

pub returns-in_err-kind-in-Material : goal.returns-in_err-kind-in-Material
unfolding row_place
returns-in_err-kind-in-Material c = λ pairs is.
    let so = c.in_err-kind-in-Material.ensures pairs is (λ k d. Question (Material c.in_ok-code-in-Material.code k d)) in
    let fails : c.from_residual-in_err-kind-in-Material.result ≡ asked_by [] (by_kind_and_day (λ k d. Question (Material c.in_ok-code-in-Material.code k d))) pairs = search (rules, so) in
    let found = on_found (code_in (drop 1 c.args.behind.now)) c.in_ok-code-in-Material.code (λ taken. by_kind_and_day (λ k d. Question (Material taken k d))) pairs c.in_ok-code-in-Material.ensures in
    rw c.in-Material.is (fails ∙ found)

pub returns-in_err-day_alone-in-Rohs : goal.returns-in_err-day_alone-in-Rohs
unfolding row_place
returns-in_err-day_alone-in-Rohs c = λ pairs is.
    let so = c.in_err-day_alone-in-Rohs.ensures pairs is (λ d. Question (Rohs c.in_ok-code_behind-in-Rohs.field-0 d)) in
    let fails : c.from_residual-in_err-day_alone-in-Rohs.result ≡ asked_by [] (by_day (λ d. Question (Rohs c.in_ok-code_behind-in-Rohs.field-0 d))) pairs = search (rules, so) in
    let found = on_found (code_in (drop 1 c.args.behind.now)) c.in_ok-code_behind-in-Rohs.field-0 (λ taken. by_day (λ d. Question (Rohs taken d))) pairs c.in_ok-code_behind-in-Rohs.ensures in
    rw c.in-Rohs.is (fails ∙ found)

pub returns-in_err-day_alone-in-Article33 : goal.returns-in_err-day_alone-in-Article33
unfolding row_place
returns-in_err-day_alone-in-Article33 c = λ pairs is.
    let so = c.in_err-day_alone-in-Article33.ensures pairs is (λ d. Question (Reach33 c.in_ok-code_behind-in-Article33.field-0 d)) in
    let fails : c.from_residual-in_err-day_alone-in-Article33.result ≡ asked_by [] (by_day (λ d. Question (Reach33 c.in_ok-code_behind-in-Article33.field-0 d))) pairs = search (rules, so) in
    let found = on_found (code_in (drop 1 c.args.behind.now)) c.in_ok-code_behind-in-Article33.field-0 (λ taken. by_day (λ d. Question (Reach33 taken d))) pairs c.in_ok-code_behind-in-Article33.ensures in
    rw c.in-Article33.is (fails ∙ found)

pub returns-in_err-day_alone-in-Article7 : goal.returns-in_err-day_alone-in-Article7
unfolding row_place
returns-in_err-day_alone-in-Article7 c = λ pairs is.
    let so = c.in_err-day_alone-in-Article7.ensures pairs is (λ d. Question (Reach7 c.in_ok-year_behind-in-Article7.field-0 d)) in
    let fails : c.from_residual-in_err-day_alone-in-Article7.result ≡ asked_by [] (by_day (λ d. Question (Reach7 c.in_ok-year_behind-in-Article7.field-0 d))) pairs = search (rules, so) in
    let found = on_found (year_in (drop 1 c.args.behind.now)) c.in_ok-year_behind-in-Article7.field-0 (λ taken. by_day (λ d. Question (Reach7 taken d))) pairs c.in_ok-year_behind-in-Article7.ensures in
    rw c.in-Article7.is (fails ∙ found)

pub returns-in_err-day-in-Summary : goal.returns-in_err-day-in-Summary
unfolding row_place
returns-in_err-day-in-Summary c = λ pairs is.
    let so = c.in_err-day-in-Summary.ensures pairs is (λ d. Question (Summary d)) in
    let fails : c.from_residual-in_err-day-in-Summary.result ≡ asked_by [] (by_day (λ d. Question (Summary d))) pairs = search (rules, so) in
    let found = on_end c.args.behind.now (by_day (λ d. Question (Summary d))) pairs c.in_ok-nothing_behind-in-Summary.field-0 c.in_ok-nothing_behind-in-Summary.ensures in
    rw c.in-Summary.is (fails ∙ found)

pub returns : goal.returns
unfolding row_place
returns c = λ pairs is. elim c.match-self.branch [
  | in-Material+in_ok-code-in-Material+in_ok-kind-in-Material w ↦
      rw (w.question-is, w.in-Material.is)
      (sym (w.in_ok-kind-in-Material.ensures pairs is (λ k d. Question (Material w.in_ok-code-in-Material.code k d))) ∙ on_found (code_in (drop 1 c.args.behind.now)) w.in_ok-code-in-Material.code (λ taken. by_kind_and_day (λ k d. Question (Material taken k d))) pairs w.in_ok-code-in-Material.ensures)
  | in-Rohs+in_ok-code_behind-in-Rohs+in_ok-day_alone-in-Rohs w ↦
      rw (w.question-is, w.in-Rohs.is)
      (sym (w.in_ok-day_alone-in-Rohs.ensures pairs is (λ d. Question (Rohs w.in_ok-code_behind-in-Rohs.field-0 d))) ∙ on_found (code_in (drop 1 c.args.behind.now)) w.in_ok-code_behind-in-Rohs.field-0 (λ taken. by_day (λ d. Question (Rohs taken d))) pairs w.in_ok-code_behind-in-Rohs.ensures)
  | in-Article33+in_ok-code_behind-in-Article33+in_ok-day_alone-in-Article33 w ↦
      rw (w.question-is, w.in-Article33.is)
      (sym (w.in_ok-day_alone-in-Article33.ensures pairs is (λ d. Question (Reach33 w.in_ok-code_behind-in-Article33.field-0 d))) ∙ on_found (code_in (drop 1 c.args.behind.now)) w.in_ok-code_behind-in-Article33.field-0 (λ taken. by_day (λ d. Question (Reach33 taken d))) pairs w.in_ok-code_behind-in-Article33.ensures)
  | in-Article7+in_ok-year_behind-in-Article7+in_ok-day_alone-in-Article7 w ↦
      rw (w.question-is, w.in-Article7.is)
      (sym (w.in_ok-day_alone-in-Article7.ensures pairs is (λ d. Question (Reach7 w.in_ok-year_behind-in-Article7.field-0 d))) ∙ on_found (year_in (drop 1 c.args.behind.now)) w.in_ok-year_behind-in-Article7.field-0 (λ taken. by_day (λ d. Question (Reach7 taken d))) pairs w.in_ok-year_behind-in-Article7.ensures)
  | in-Part+in_ok-code-in-Part+in_ok-nothing-in-Part w ↦
      rw (w.question-is, w.in-Part.is)
      (sym (w.in_ok-nothing-in-Part.ensures pairs is (Question (Part w.in_ok-code-in-Part.code))) ∙ on_found (code_in (drop 1 c.args.behind.now)) w.in_ok-code-in-Part.code (λ taken. by_nothing (Question (Part taken))) pairs w.in_ok-code-in-Part.ensures)
  | in-Uses+in_ok-code-in-Uses+in_ok-nothing-in-Uses w ↦
      rw (w.question-is, w.in-Uses.is)
      (sym (w.in_ok-nothing-in-Uses.ensures pairs is (Question (Uses w.in_ok-code-in-Uses.code))) ∙ on_found (code_in (drop 1 c.args.behind.now)) w.in_ok-code-in-Uses.code (λ taken. by_nothing (Question (Uses taken))) pairs w.in_ok-code-in-Uses.ensures)
  | in-Summary+in_ok-nothing_behind-in-Summary+in_ok-day-in-Summary w ↦
      rw (w.question-is, w.in-Summary.is)
      (sym (w.in_ok-day-in-Summary.ensures pairs is (λ d. Question (Summary d))) ∙ on_end c.args.behind.now (by_day (λ d. Question (Summary d))) pairs w.in_ok-nothing_behind-in-Summary.field-0 w.in_ok-nothing_behind-in-Summary.ensures)
  | in-Version+in_ok-nothing_behind-in-Version+in_ok-nothing-in-Version w ↦
      rw (w.question-is, w.in-Version.is)
      (sym (w.in_ok-nothing-in-Version.ensures pairs is (Question Version)) ∙ on_end c.args.behind.now (by_nothing (Question Version)) pairs w.in_ok-nothing_behind-in-Version.field-0 w.in_ok-nothing_behind-in-Version.ensures)
]
