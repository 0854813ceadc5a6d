-- The edits of a sample, in order.
use Rattle.std.specs.Prelude.{ℕ, zero, suc, ◌+◌, ◌-◌, ◌*◌, ◌/◌, ◌%◌, ◌==◌, if◌then◌else◌, min, nat_le}
use Rattle.std.specs.Int.{div_ceil}
use Rattle.std.specs.Prelude.{List, [], ◌∷◌, ◌++◌, codes, slice_index_or}
use Rattle.desk_law.specs.declared.kind.Kind.{Kind}
use Rattle.desk_law.specs.declared.kind.Kind.TheVariants.{Telecommunications, IndustrialInstrument, Toy, Other, MedicalDevice}
use Rattle.desk_model.specs.declared.edit.Edit.{Edit}
use Rattle.desk_model.specs.declared.edit.Edit.TheVariants.{Declare, Part, Line, Product, Candidate, Ship}
use Rattle.desk_model.specs.declared.part_sort.PartSort.TheVariants.{Article, Assembly}
use Rattle.desk_model.specs.declared.substance_mass.SubstanceMass.{SubstanceMass}
use Rattle.desk_model.specs.Declaration.{Declared}
use Rattle.desk_sample.specs.Codes.{article_code, assembly_code, material_code, supplier}
use Rattle.desk_sample.specs.Ticketed.{Making, ticketed}

-- what there is for each number from 1 to n, in order
abbrev pub each_to : {X : Type 0} → ℕ → (ℕ → List X) → List X
each_to zero of = []
each_to (suc n) of = each_to n of ++ of (suc n)

-- a mass of a substance
abbrev pub mass_held : List ℕ → ℕ → SubstanceMass
mass_held substance mass = record { substance = substance; mass = mass }

-- how much cadmium material i holds
abbrev pub cadmium : ℕ → SubstanceMass
cadmium i = mass_held (codes "cadmium") (i * 11 % 130)

-- how much lead material i holds
abbrev pub lead : ℕ → SubstanceMass
lead i = mass_held (codes "lead") (i * 37 % 1500)

-- how much DEHP material i holds
abbrev pub dehp : ℕ → SubstanceMass
dehp i = mass_held (codes "dehp") (i * 53 % 1400)

-- the metals that each material holds, in order of code
abbrev pub metals : ℕ → List SubstanceMass
metals i = cadmium i ∷ lead i ∷ []

-- what material i holds, in order of code: each fifth also DEHP
abbrev pub substances : ℕ → List SubstanceMass
substances i = if i % 5 == 0 then cadmium i ∷ dehp i ∷ lead i ∷ [] else metals i

-- declaration i, of 2024-01-15: of one material, which holds this
abbrev pub declaring : ℕ → List SubstanceMass → Declared
declaring i mass_held =
    record {
      supplier = supplier i;
      number = i;
      day = record { year = 2024; month = 1; day = 15 };
      materials = record { code = material_code i; name = codes "Material"; mass = 1000000 + i; substances = mass_held; claims = [] } ∷ [];
    }

-- declaration i
abbrev pub declaration : ℕ → Declared
declaration i = declaring i (substances i)

-- declaration i as an edit
abbrev pub declaration_edit : ℕ → Edit
declaration_edit i = Declare (declaration i)

-- article i of n, with its lines: to its own material, and where there are two to the next one
abbrev pub article : ℕ → ℕ → List Making
article n i =
    (λ t. Part t (article_code i) Article (codes "Article"))
    ∷ (λ t. Line t (article_code i) (material_code i) (1 + i % 3))
    ∷ (if nat_le 2 n then (λ t. Line t (article_code i) (material_code (i % n + 1)) 1) ∷ [] else [])

-- the lines of assembly j to its articles: from 8j - 7 to 8j, as far as there are any
abbrev pub article_lines : ℕ → ℕ → List Making
article_lines n j =
    each_to (min n (8 * j) - (8 * j - 8)) (λ k. (λ t. Line t (assembly_code j) (article_code (8 * j - 8 + k)) (1 + (8 * j - 8 + k) % 4)) ∷ [])

-- assembly j, with its lines: to its articles, and but for the first to the assembly of half its number
abbrev pub assembly : ℕ → ℕ → List Making
assembly n j =
    (λ t. Part t (assembly_code j) Assembly (codes "Assembly"))
    ∷ (article_lines n j ++ (if nat_le 2 j then (λ t. Line t (assembly_code j) (assembly_code (j / 2)) 2) ∷ [] else []))

-- how many assemblies there are: one for each eight articles, begun or whole
abbrev pub assemblies : ℕ → ℕ
assemblies n = div_ceil n 8

-- the kinds of the products: 3, 9i, 7t, 11 and 8
abbrev pub kinds : List Kind
kinds = Telecommunications ∷ IndustrialInstrument ∷ Toy ∷ Other ∷ MedicalDevice ∷ []

-- product j
abbrev pub product : ℕ → List Making
product j = (λ t. Product t (assembly_code j) (slice_index_or kinds (j - 1) Telecommunications)) ∷ []

-- the candidates
abbrev pub candidates : List Making
candidates =
    (λ t. Candidate t (codes "dehp") (record { year = 2008; month = 10; day = 28 }))
    ∷ (λ t. Candidate t (codes "lead") (record { year = 2018; month = 6; day = 27 }))
    ∷ []

-- what is shipped of product j in 2024
abbrev pub shipment : ℕ → List Making
shipment j = (λ t. Ship t (assembly_code j) 2024 (1000 * j)) ∷ []

-- how many products there are
abbrev pub products : ℕ → ℕ
products n = min (assemblies n) 5

-- the edits that are no declarations
abbrev pub others : ℕ → List Making
others n =
    each_to n (article n)
    ++ (each_to (assemblies n) (assembly n) ++ (each_to (products n) product ++ (candidates ++ each_to (products n) shipment)))

-- the edits of a sample of n: the declarations, and then those that have tickets
abbrev pub sample_edits : ℕ → List Edit
sample_edits n = each_to n (λ i. declaration_edit i ∷ []) ++ ticketed 1 (others n)
