-- What a turn is, from what the calls that make it say.
use Rattle.std.proofs.Common.{◌≡◌, ◌≢◌, ◌⊎◌, ℕ, ◌≤◌, Bool, true, false, cond, List, [], ◌∷◌, Option, None, Some, Result, Ok, Err, is_ok, refl, sym, ap, ◌∙◌, subst, inl, inr}
use Rattle.std.specs.List.{find}
use Rattle.std.specs.List.{AllByRecursion}
use Rattle.std.specs.Option.{option_and_then, option_map_or}
use Rattle.std.specs.Prelude.{codes, option_map}
use Rattle.std.specs.Str.{bytes_eq}
use Rattle.desk_law.specs.declared.kind.Kind.{Kind}
use Rattle.desk_model.specs.Lists.{number_at}
use Rattle.desk_http.specs.Query.{Pair, day_in, kind_in, pairs_of}
use Rattle.desk_http.specs.Routes.{FromQuery, RouteRow, are_named, asked_by, asked_with, asks, behind_word, day, kind, path_of, path_taken, query_of, route_of, routes, route_row, same_method, taken_from_path, path_word}
use Rattle.desk_http.specs.declared.ask.Ask.{Ask}
use Rattle.desk_http.specs.declared.http_fault.HttpFault.{HttpFault}
use Rattle.desk_http.specs.declared.http_fault.HttpFault.TheVariants as cause
use Rattle.desk_http.specs.declared.http_fault.QueryKey.{QueryKey}
use Rattle.desk_http.specs.declared.http_fault.QueryKey.TheVariants as key
use Rattle.desk_http.specs.declared.method.Method.{Method}
use Rattle.desk_clerk.specs.Published.{added_to_list}
use Rattle.desk_edge.specs.Faults.{Rose}
use Rattle.desk_history.specs.Step.{kept_number, step}
use Rattle.desk_http.specs.Reply.{Reply, bytes_with, fixed, fixed_reply, with_body}
use Rattle.desk_http.specs.declared.fixed.Fixed.{Fixed}
use Rattle.desk_http.specs.declared.fixed.Fixed.TheVariants as refusal
use Rattle.desk_http.specs.declared.method.Method.TheVariants as method
use Rattle.desk_model.specs.Forms.{is_edit_in_form}
use Rattle.desk_model.specs.declared.edit.Edit.{Edit}
use Rattle.desk_model.specs.declared.rule_fault.RuleFault.{RuleFault}
use Rattle.desk_scratch.specs.declared.question.Question.{Question}
use Rattle.desk_front.specs.Asked.{Asked, edit, nothing, question}
use Rattle.desk_front.specs.Replies.{accepted_body, answer_at, reply_to_edit, refused_body}
use Rattle.desk_front.specs.Told.{Says}
use Rattle.desk_front.specs.Turn.{Standing, Turn}
use Rattle.desk_front.proofs.Saying.{fixed_bytes}

-- what asks nothing gets its reply, and whatever is asked may lack memory
pub refuses : (old : Standing) (reply : Reply) → Turn old (nothing reply) reply [] old
refuses old reply = inl (refl, refl, refl)

pub lacks : (old : Standing) (asked : Asked) → Turn old asked (fixed refusal.Memory) [] old
lacks old asked = inr (inl (refl, inl (refl, refl)))

pub says_answer : (old : Standing) (asked : Question) (close : Bool) (last_seen : ℕ) → last_seen ≡ number_at old.current
    → Says Turn old (question asked) close (bytes_with close (answer_at old.current asked)) (record old { last_seen = last_seen })
says_answer old asked close last_seen e = (answer_at old.current asked, [], inl (refl, refl, ap (λ n. record old { last_seen = n }) e), refl)

pub says_accepted : (old new : Standing) (made : Edit) (close : Bool) (number whole : ℕ) → is_edit_in_form made ≡ true → (step old.current made).0 ≡ Ok number
    → whole ≡ number_at new.current → new.current ≡ (step old.current made).1 → new.faults ≡ old.faults → new.last_seen ≡ whole
    → Says Turn old (edit made) close (bytes_with close (with_body 200 (accepted_body whole old.last_seen number))) new
says_accepted old new made close number whole form answer counted left steady last_seen =
    let at : whole ≡ number_at (step old.current made).1 = counted ∙ ap number_at left in
    let last_seen_at : new.last_seen ≡ number_at (step old.current made).1 = last_seen ∙ at in (
      with_body 200 (accepted_body whole old.last_seen number),
      added_to_list old.current made,
      inl (
        form,
        ap (λ n. reply_to_edit n old.last_seen (Ok number)) at ∙ ap (reply_to_edit (number_at (step old.current made).1) old.last_seen) (sym answer),
        refl,
        (λ i. record { current = left i; last_seen = last_seen_at i; faults = steady i }),
      ),
      refl,
    )

pub says_refused : (old new : Standing) (made : Edit) (close : Bool) (cause : RuleFault) (whole : ℕ) → is_edit_in_form made ≡ true → (step old.current made).0 ≡ Err cause
    → (step old.current made).1 ≡ old.current → whole ≡ number_at old.current → new.current ≡ old.current → new.faults ≡ old.faults → new.last_seen ≡ whole
    → Says Turn old (edit made) close (bytes_with close (with_body 409 (refused_body whole old.last_seen cause))) new
says_refused old new made close cause whole form answer stays counted left steady last_seen =
    let left_at : new.current ≡ (step old.current made).1 = left ∙ sym stays in
    let at : whole ≡ number_at (step old.current made).1 = counted ∙ ap number_at (sym stays) in
    let last_seen_at : new.last_seen ≡ number_at (step old.current made).1 = last_seen ∙ at in (
      with_body 409 (refused_body whole old.last_seen cause),
      added_to_list old.current made,
      inl (
        form,
        ap (λ n. reply_to_edit n old.last_seen (Err cause)) at ∙ ap (reply_to_edit (number_at (step old.current made).1) old.last_seen) (sym answer),
        refl,
        (λ i. record { current = left_at i; last_seen = last_seen_at i; faults = steady i }),
      ),
      refl,
    )

-- an edit was made, and there was no memory to tell it
pub says_made : (old new : Standing) (made : Edit) (close : Bool) (refused : Fixed) → refused ≡ refusal.Memory → is_edit_in_form made ≡ true
    → new.current ≡ (step old.current made).1 → new.last_seen ≡ old.last_seen → new.faults ≡ old.faults → Says Turn old (edit made) close (fixed_reply refused close) new
says_made old new made close refused e form left last_seen steady =
    subst (λ r. Says Turn old (edit made) close (fixed_reply r close) new) (sym e) (
      fixed refusal.Memory,
      added_to_list old.current made,
      inr (inl (refl, inr (made, refl, form, refl, (λ i. record { current = left i; last_seen = last_seen i; faults = steady i })))),
      fixed_bytes refusal.Memory close,
    )

-- nothing was made, and there was no memory to tell why
pub says_unmade : (old new : Standing) (asked : Asked) (close : Bool) (refused : Fixed) → refused ≡ refusal.Memory → new.current ≡ old.current → new.last_seen ≡ old.last_seen
    → new.faults ≡ old.faults → Says Turn old asked close (fixed_reply refused close) new
says_unmade old new asked close refused e left last_seen steady =
    subst (λ r. Says Turn old asked close (fixed_reply r close) new) (sym e) (
      fixed refusal.Memory,
      [],
      inr (inl (refl, inl (refl, (λ i. record { current = left i; last_seen = last_seen i; faults = steady i })))),
      fixed_bytes refusal.Memory close,
    )

-- the store failed to keep an edit that is new and that meets no refusal
pub says_failed : (old new : Standing) (made : Edit) (close : Bool) → new.current ≡ old.current → new.last_seen ≡ old.last_seen → old.faults ≤ new.faults → Rose old.faults new.faults
    → (kept_number old.current made ≡ None) × (is_ok (step old.current made).0 ≡ true) → Says Turn old (edit made) close (fixed_reply refusal.StoreFault close) new
says_failed old new made close left last_seen falls rose asked = (
  fixed refusal.StoreFault,
  [],
  inr (inr (made, refl, refl, refl, falls, rose, (λ i. record { current = left i; last_seen = last_seen i; faults = new.faults }), asked.0, asked.1)),
  fixed_bytes refusal.StoreFault close,
)

-- memory was wanting: nothing of the edit was made, or it is made and not published
pub says_untold : {P Q R : Type 0} (old new : Standing) (made : Edit) (close : Bool) → is_edit_in_form made ≡ true
    → (P × (new.current ≡ old.current)) ⊎ ((Q × (new.current ≡ (step old.current made).1)) × R) → new.last_seen ≡ old.last_seen → new.faults ≡ old.faults
    → Says Turn old (edit made) close (fixed_reply refusal.Memory close) new
says_untold old new made close form (inl x) last_seen steady = says_unmade old new (edit made) close refusal.Memory refl x.1 last_seen steady
says_untold old new made close form (inr x) last_seen steady = says_made old new made close refusal.Memory refl form x.0.1 last_seen steady

-- ---- the method that a path takes is one that the desk knows

by_key : {T : Type 0} (next : T → Result Ask HttpFault) (value : Option T) (failing : QueryKey) (allowed : Method) → ((v : T) → next v ≡ Err (cause.WrongMethod allowed) → ⊥)
    → option_map_or next value (Err (cause.BadQuery failing)) ≡ Err (cause.WrongMethod allowed) → ⊥
by_key next None failing allowed never e = cc
by_key next (Some v) failing allowed never e = never v e

-- a query never asks for another method
never_method : (allowed : Method) (left : FromQuery) (names : List (List ℕ)) (pairs : List Pair) → asked_by names left pairs ≡ Err (cause.WrongMethod allowed) → ⊥
unfolding asked_by
never_method allowed (asks it) names pairs e = if_named (are_named names pairs) e
  where
    if_named : (b : Bool) → cond b (Ok it) (Err (cause.BadQuery key.Other)) ≡ Err (cause.WrongMethod allowed) → ⊥
    if_named true h = cc
    if_named false h = cc
never_method allowed (kind next) names pairs e = by_key (λ k. asked_by (codes "kind" ∷ names) (next k) pairs) (kind_in pairs) key.Kind allowed
    (λ k. never_method allowed (next k) (codes "kind" ∷ names) pairs) e
never_method allowed (day next) names pairs e = by_key (λ d. asked_by (codes "day" ∷ names) (next d) pairs) (day_in pairs) key.Day allowed
    (λ d. never_method allowed (next d) (codes "day" ∷ names) pairs) e

first_or : (b : Bool) (row found : RouteRow) (others : Option RouteRow) → row.method ≢ method.Other → (others ≡ Some found → found.method ≢ method.Other)
    → cond b (Some row) others ≡ Some found → found.method ≢ method.Other
first_or true row found others known later e = subst (λ r. r.method ≢ method.Other) (inside row found e) known
  where
    inside : (a b : RouteRow) → Some a ≡ Some b → a ≡ b
    inside a b f = cc
first_or false row found others known later e = later e

-- each row takes a method that the desk knows
rows_known : (word : List ℕ) (rows : List RouteRow) (found : RouteRow) → AllByRecursion (λ row. row.method ≢ method.Other) rows
    → find (λ row. bytes_eq row.word word) rows ≡ Some found → found.method ≢ method.Other
rows_known word [] found known e = cc
rows_known word (row ∷ rows) found known e = first_or (bytes_eq row.word word) row found (find (λ row. bytes_eq row.word word) rows) known.0 (rows_known word rows found known.1) e

table_known : AllByRecursion (λ row. row.method ≢ method.Other) routes
table_known = ((λ h. cc), ((λ h. cc), ((λ h. cc), ((λ h. cc), ((λ h. cc), ((λ h. cc), ((λ h. cc), ((λ h. cc), ((λ h. cc), ((λ h. cc), tt))))))))))

known_at : (path : List ℕ) (row : Option RouteRow) (taken : Method × FromQuery) → ((found : RouteRow) → row ≡ Some found → found.method ≢ method.Other)
    → option_and_then (λ row. option_map (λ next. (row.method, next)) (taken_from_path row.path (behind_word path))) row ≡ Some taken → taken.0 ≢ method.Other
known_at path None taken known e = cc
known_at path (Some row) taken known e = at (taken_from_path row.path (behind_word path)) e
  where
    at : (next : Option FromQuery) → option_map (λ next. (row.method, next)) next ≡ Some taken → taken.0 ≢ method.Other
    at None h = cc
    at (Some next) h = subst (λ t. t.0 ≢ method.Other) (inside (row.method, next) taken h) (known row refl)
      where
        inside : (a b : Method × FromQuery) → Some a ≡ Some b → a ≡ b
        inside a b f = cc

known_in_table : (word : List ℕ) (found : RouteRow) → route_row word ≡ Some found → found.method ≢ method.Other
unfolding route_row
known_in_table word found e = rows_known word routes found table_known e

pub allows_known : (sent : Method) (target : List ℕ) (allowed : Method) → route_of sent target ≡ Err (cause.WrongMethod allowed) → allowed ≢ method.Other
unfolding route_of
allows_known sent target allowed e =
    at (path_taken (path_of target)) e (λ taken f. known_at (path_of target) (route_row (path_word (path_of target))) taken (known_in_table (path_word (path_of target))) f)
  where
    at : (taken : Option (Method × FromQuery)) → option_map_or (asked_with sent (pairs_of (query_of target))) taken (Err cause.NoRoute) ≡ Err (cause.WrongMethod allowed)
        → ((t : Method × FromQuery) → taken ≡ Some t → t.0 ≢ method.Other) → allowed ≢ method.Other
    at None h known = cc
    at (Some t) h known = by_method (same_method t.0 sent) h
      where
        by_method : (b : Bool) → cond b (asked_by [] t.1 (pairs_of (query_of target))) (Err (cause.WrongMethod t.0)) ≡ Err (cause.WrongMethod allowed) → allowed ≢ method.Other
        by_method true g = absurd (never_method allowed t.1 [] (pairs_of (query_of target)) g)
        by_method false g = subst (λ m. m ≢ method.Other) (inside t.0 allowed g) (known t refl)
          where
            inside : (a b : Method) → ◌≡◌ {A = Result Ask HttpFault} (Err (cause.WrongMethod a)) (Err (cause.WrongMethod b)) → a ≡ b
            inside a b f = cc
