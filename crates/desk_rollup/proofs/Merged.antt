-- Lists in the order of their numbers that are made one.
use Rattle.std.proofs.Common.{◌≡◌, ℕ, ◌+◌, ◌<◌, ◌≤◌, true, false, cond, ◌==◌, List, [], ◌∷◌, map, find, fold, nat_lt, Option, Some, None, option_map, refl, sym, ap, ◌∙◌, subst, inl, inr, arith}
use Rattle.std.proofs.lemmas.Bool.{cases_eq, cases_lt, eq-eqb, le-ltb, lt-ltb, ne_eqb}
use Rattle.std.specs.List.{AllByRecursion}
use Rattle.desk_graph.specs.declared.line.BillLine.{BillLine}
use Rattle.desk_rollup.specs.Gathered.{with_each, with_each_line}
use Rattle.desk_rollup.specs.Merge.{merged_in, merged}
use Rattle.desk_rollup.specs.Numbers.{RisesFrom}
use Rattle.desk_rollup.specs.Values.{RolledValues}

-- what stands at a number in both of two lists, joined
abbrev pub both : {X : Type 0} → (X → X → X) → Option X → Option X → Option X
both join None more = more
both join (Some held) None = Some held
both join (Some held) (Some more) = Some (join held more)

both_none : {X : Type 0} (join : X → X → X) (held : Option X) → both join held None ≡ held
both_none join None = refl
both_none join (Some held) = refl

module _ {X : Type 0} (number : X → ℕ) (join : X → X → X) (keeps : (held more : X) → number (join held more) ≡ number held) where
  abbrev pub look : List X → ℕ → Option X
  look entries n = find (λ entry. number entry == n) entries

  abbrev pub Up : ℕ → List X → Type 0
  Up low entries = RisesFrom low (map number entries)

  pub up_from : (low high : ℕ) (entries : List X) → low ≤ high → Up high entries → Up low entries
  up_from low high [] h up = tt
  up_from low high (entry ∷ entries) h up = (omega (arith, up.0), up.1)

  -- nothing stands below the least number
  pub none_below : (low n : ℕ) (entries : List X) → n < low → Up low entries → look entries n ≡ None
  none_below low n [] h up = refl
  none_below low n (entry ∷ entries) h up =
      let other : (number entry == n) ≡ false = ne_eqb (number entry) n (λ e. omega (arith, up.0)) in
      rw other (none_below (number entry + 1) n entries (omega (arith, up.0)) up.1)

  module _ (go : List X → List X) (entry : X) (more : List X) where
    up_entered : (low : ℕ) (held : List X) → Up low held → Up low (entry ∷ more) →
        ((low : ℕ) (held : List X) → Up low held → Up low more → Up low (go held)) → Up low (merged_in number join entry go held)
    up_entered low [] up_held up goes = (up.0, goes (number entry + 1) [] tt up.1)
    up_entered low (held ∷ rest) up_held up goes =
        elim (cases_lt (number held) (number entry)) [
          | inl lower ↦
              let less : nat_lt (number held) (number entry) ≡ true = lt-ltb (number held) (number entry) lower in
              rw less (up_held.0, up_entered (number held + 1) rest up_held.1 (omega arith, up.1) goes)
          | inr past ↦
              let not_less : nat_lt (number held) (number entry) ≡ false = le-ltb (number held) (number entry) past in
              elim (cases_eq (number held) (number entry)) [
                | inl same ↦
                    let is : (number held == number entry) ≡ true = eq-eqb (number held) (number entry) same in
                    rw (not_less, is, keeps held entry) (up_held.0, goes (number held + 1) rest up_held.1 (subst (λ n. Up (n + 1) more) (sym same) up.1))
                | inr other ↦
                    let is_not : (number held == number entry) ≡ false = ne_eqb (number held) (number entry) other in
                    rw (not_less, is_not) (up.0, goes (number entry + 1) (held ∷ rest) (omega arith, up_held.1) up.1)
              ]
        ]

    look_entered : (low n : ℕ) (held : List X) → Up low held → Up low (entry ∷ more) →
        ((low : ℕ) (held : List X) → Up low held → Up low more → look (go held) n ≡ both join (look held n) (look more n)) →
        look (merged_in number join entry go held) n ≡ both join (look held n) (look (entry ∷ more) n)
    look_entered low n [] up_held up goes = ap (cond (number entry == n) (Some entry)) (goes (number entry + 1) [] tt up.1)
    look_entered low n (held ∷ rest) up_held up goes =
        elim (cases_lt (number held) (number entry)) [
          | inl lower ↦
              let less : nat_lt (number held) (number entry) ≡ true = lt-ltb (number held) (number entry) lower in
              rw less
              (elim (cases_eq (number held) n) [
                | inl here ↦
                    let is : (number held == n) ≡ true = eq-eqb (number held) n here in
                    let none : look (entry ∷ more) n ≡ None = none_below (n + 1) n (entry ∷ more) (omega arith) (omega arith, up.1) in
                    rw (is, none) refl
                | inr other ↦
                    let is_not : (number held == n) ≡ false = ne_eqb (number held) n other in
                    rw is_not (look_entered (number held + 1) n rest up_held.1 (omega arith, up.1) goes)
              ])
          | inr past ↦
              let not_less : nat_lt (number held) (number entry) ≡ false = le-ltb (number held) (number entry) past in
              elim (cases_eq (number held) (number entry)) [
                | inl same ↦
                    let is : (number held == number entry) ≡ true = eq-eqb (number held) (number entry) same in
                    let rest_is = goes (number held + 1) rest up_held.1 (subst (λ k. Up (k + 1) more) (sym same) up.1) in
                    rw (not_less, is, keeps held entry, same)
                    (elim (cases_eq (number entry) n) [
                      | inl here ↦ let at : (number entry == n) ≡ true = eq-eqb (number entry) n here in rw at refl
                      | inr other ↦ let away : (number entry == n) ≡ false = ne_eqb (number entry) n other in rw away rest_is
                    ])
                | inr other ↦
                    let is_not : (number held == number entry) ≡ false = ne_eqb (number held) (number entry) other in
                    let up_all : Up (number entry + 1) (held ∷ rest) = (omega arith, up_held.1) in
                    let rest_is = goes (number entry + 1) (held ∷ rest) up_all up.1 in
                    rw (not_less, is_not)
                    (elim (cases_eq (number entry) n) [
                      | inl here ↦
                          let at : (number entry == n) ≡ true = eq-eqb (number entry) n here in
                          let none : look (held ∷ rest) n ≡ None = none_below (number entry + 1) n (held ∷ rest) (omega arith) up_all in
                          rw (at, none) refl
                      | inr away ↦ let is_away : (number entry == n) ≡ false = ne_eqb (number entry) n away in rw is_away rest_is
                    ])
              ]
        ]

  -- the lists made one rise
  pub up_merged : (more : List X) (low : ℕ) (held : List X) → Up low held → Up low more → Up low (merged number join more held)
  up_merged [] low held up_held up = up_held
  up_merged (entry ∷ more) low held up_held up =
      up_entered (merged number join more) entry more low held up_held up (λ l h. up_merged more l h)

  -- at each number stands what stood there in both
  pub look_merged : (more : List X) (low n : ℕ) (held : List X) → Up low held → Up low more →
      look (merged number join more held) n ≡ both join (look held n) (look more n)
  look_merged [] low n held up_held up = sym (both_none join (look held n))
  look_merged (entry ∷ more) low n held up_held up =
      look_entered (merged number join more) entry more low n held up_held up (λ l h. look_merged more l n h)

  up_one : (entry : X) → Up 0 (entry ∷ [])
  up_one entry = (omega arith, tt)

  -- with each of the entries the list still rises
  pub up_each : (entries held : List X) → Up 0 held → Up 0 (with_each number join entries held)
  up_each [] held up = up
  up_each (entry ∷ entries) held up = up_each entries (merged number join (entry ∷ []) held) (up_merged (entry ∷ []) 0 held up (up_one entry))

  pub look_each : (n : ℕ) (entries held : List X) → Up 0 held → look (with_each number join entries held) n ≡ fold (λ o entry. both join o (look (entry ∷ []) n)) (look held n) entries
  look_each n [] held up = refl
  look_each n (entry ∷ entries) held up =
      look_each n entries (merged number join (entry ∷ []) held) (up_merged (entry ∷ []) 0 held up (up_one entry))
      ∙ ap (λ o. fold (λ p e. both join p (look (e ∷ []) n)) o entries) (look_merged (entry ∷ []) 0 n held up (up_one entry))

  module _ (lift : BillLine → X → X) (lifts : (line : BillLine) (entry : X) → number (lift line entry) ≡ number entry) (listed : RolledValues → List X) (below : ℕ → RolledValues) where
    up_lifted : (line : BillLine) (low : ℕ) (entries : List X) → Up low entries → Up low (map (lift line) entries)
    up_lifted line low [] up = tt
    up_lifted line low (entry ∷ entries) up = rw (lifts line entry) (up.0, up_lifted line (number entry + 1) entries up.1)

    look_lifted : (line : BillLine) (n : ℕ) (entries : List X) → look (map (lift line) entries) n ≡ option_map (lift line) (look entries n)
    look_lifted line n [] = refl
    look_lifted line n (entry ∷ entries) =
        rw (lifts line entry)
        (elim (number entry == n) as (λ b. cond b (Some (lift line entry)) (look (map (lift line) entries) n) ≡ option_map (lift line) (cond b (Some entry) (look entries n))) [
          | true ↦ refl
          | false ↦ look_lifted line n entries
        ])

    -- with what the children of the lines have it still rises
    pub up_lines : (of_node : List BillLine) (held : List X) → Up 0 held → AllByRecursion (λ line. Up 0 (listed (below line.node))) of_node → Up 0 (with_each_line number join lift listed below of_node held)
    up_lines [] held up each = up
    up_lines (line ∷ of_node) held up each =
        up_lines of_node (merged number join (map (lift line) (listed (below line.node))) held)
        (up_merged (map (lift line) (listed (below line.node))) 0 held up (up_lifted line 0 (listed (below line.node)) each.0)) each.1

    pub look_lines : (n : ℕ) (of_node : List BillLine) (held : List X) → Up 0 held → AllByRecursion (λ line. Up 0 (listed (below line.node))) of_node →
        look (with_each_line number join lift listed below of_node held) n ≡ fold (λ o line. both join o (option_map (lift line) (look (listed (below line.node)) n))) (look held n) of_node
    look_lines n [] held up each = refl
    look_lines n (line ∷ of_node) held up each =
        let more = map (lift line) (listed (below line.node)) in
        let up_more = up_lifted line 0 (listed (below line.node)) each.0 in
        look_lines n of_node (merged number join more held) (up_merged more 0 held up up_more) each.1
        ∙ ap (λ o. fold (λ p l. both join p (option_map (lift l) (look (listed (below l.node)) n))) o of_node)
        (look_merged more 0 n held up up_more ∙ ap (λ p. both join (look held n) p) (look_lifted line n (listed (below line.node))))
