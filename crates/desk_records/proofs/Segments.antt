-- A look-up among the records of the tables goes from table to table, and a change of one table leaves the others.
use Rattle.std.proofs.Common.{◌≡◌, Bool, true, false, cond, List, [], ◌∷◌, ◌++◌, map, refl, sym, ap, ◌∙◌, Option, Some, None}
use Rattle.std.specs.List.{AllByRecursion}
use Rattle.std.proofs.lemmas.List.{map-append}
use Rattle.desk_edge.specs.Content.{key_of, same_key}
use Rattle.desk_edge.specs.declared.key.Key.{Key}
use Rattle.desk_edge.specs.declared.record.Record.{Record}
use Rattle.desk_model.specs.declared.row.Row.{Row}
use Rattle.desk_records.specs.Records.{record_of}
use Rattle.desk_records.proofs.Moves.{AllNot, look, none_at}

abbrev pub or_else : Option Record → Option Record → Option Record
or_else None other = other
or_else (Some kept) other = Some kept

or_none : (o : Option Record) → or_else o None ≡ o
or_none None = refl
or_none (Some kept) = refl

or_assoc : (a b c : Option Record) → or_else (or_else a b) c ≡ or_else a (or_else b c)
or_assoc None b c = refl
or_assoc (Some kept) b c = refl

look_append : (some more : List Record) (k : Key) → look (some ++ more) k ≡ or_else (look some k) (look more k)
look_append [] more k = refl
look_append (kept ∷ some) more k =
    elim (same_key (key_of kept) k) as (λ b. cond b (Some kept) (look (some ++ more) k) ≡ or_else (cond b (Some kept) (look some k)) (look more k)) [ true ↦ refl | false ↦ look_append some more k ]

-- the record of a key in the first list that has it
abbrev pub look_in : List (List Record) → Key → Option Record
look_in [] k = None
look_in (records ∷ more) k = or_else (look records k) (look_in more k)

-- lists one behind the other
abbrev pub joined : List Row → List (List Row) → List Row
joined first [] = first
joined first (rows ∷ more) = joined (first ++ rows) more

pub look_joined : (first : List Row) (more : List (List Row)) (k : Key) → look (map record_of (joined first more)) k ≡ or_else (look (map record_of first) k) (look_in (map (map record_of) more) k)
look_joined first [] k = sym (or_none (look (map record_of first) k))
look_joined first (rows ∷ more) k =
    look_joined (first ++ rows) more k
    ∙ ap (λ found. or_else found (look_in (map (map record_of) more) k)) (ap (λ records. look records k) (map-append record_of first rows) ∙ look_append (map record_of first) (map record_of rows) k)
    ∙ or_assoc (look (map record_of first) k) (look (map record_of rows) k) (look_in (map (map record_of) more) k)

abbrev pub NoneOf : Key → List (List Record) → Type 0
NoneOf j lists = AllByRecursion (AllNot j) lists

none_in : (j k : Key) (lists : List (List Record)) → same_key j k ≡ true → NoneOf j lists → look_in lists k ≡ None
none_in j k [] e a = refl
none_in j k (records ∷ lists) e a = ap (λ found. or_else found (look_in lists k)) (none_at j k records e a.0) ∙ none_in j k lists e a.1

behind : (same : Bool) (o x y rest : Option Record) → (same ≡ true → rest ≡ None) → y ≡ cond same o x → or_else y rest ≡ cond same o (or_else x rest)
behind true o x y rest none e = (λ i. or_else (e i) (none refl i)) ∙ or_none o
behind false o x y rest none e = ap (λ found. or_else found rest) e

before : (same : Bool) (o f x y : Option Record) → (same ≡ true → f ≡ None) → y ≡ cond same o x → or_else f y ≡ cond same o (or_else f x)
before true o f x y none e = ap (λ found. or_else found y) (none refl) ∙ e
before false o f x y none e = ap (or_else f) e

-- a list that changes at a key that no other list has
pub replaced : (j : Key) (o : Option Record) (front back : List (List Record)) (old new : List Record) (k : Key) → NoneOf j front → NoneOf j back
    → look new k ≡ cond (same_key j k) o (look old k) → look_in (front ++ (new ∷ back)) k ≡ cond (same_key j k) o (look_in (front ++ (old ∷ back)) k)
replaced j o [] back old new k f b e = behind (same_key j k) o (look old k) (look new k) (look_in back k) (λ same. none_in j k back same b) e
replaced j o (records ∷ front) back old new k f b e =
    before (same_key j k) o (look records k) (look_in (front ++ (old ∷ back)) k) (look_in (front ++ (new ∷ back)) k) (λ same. none_at j k records same f.0) (replaced j o front back old new k f.1 b e)

-- the records of another table have other keys
pub others : {R : Type 0} (as_row : R → Row) (j : Key) → ((row : R) → same_key (key_of (record_of (as_row row))) j ≡ false) → (rows : List R) → AllNot j (map record_of (map as_row rows))
others as_row j differ [] = tt
others as_row j differ (row ∷ rows) = (differ row, others as_row j differ rows)
