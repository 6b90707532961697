-- The blocks of a SINEX text that are read, by their names (SINEX 2.02 format description). Every other block is passed over.
use Rattle.std.specs.Prelude.{ℕ, if◌then◌else◌, List, Option, Some, None, codes}
use Rattle.std.specs.Str.{bytes_eq}
use Rattle.snx_blocks.specs.declared.sections.Section.{Section}
use Rattle.snx_blocks.specs.declared.sections.Section.TheVariants.{Estimates, Apriori, Vector, EstimateMatrix, AprioriMatrix, NormalMatrix, Sites, Epochs}

-- the name of a block that is read
abbrev pub section_name : Section → List ℕ
section_name Estimates = codes "SOLUTION/ESTIMATE"
section_name Apriori = codes "SOLUTION/APRIORI"
section_name Vector = codes "SOLUTION/NORMAL_EQUATION_VECTOR"
section_name EstimateMatrix = codes "SOLUTION/MATRIX_ESTIMATE"
section_name AprioriMatrix = codes "SOLUTION/MATRIX_APRIORI"
section_name NormalMatrix = codes "SOLUTION/NORMAL_EQUATION_MATRIX"
section_name Sites = codes "SITE/ID"
section_name Epochs = codes "SOLUTION/EPOCHS"

-- the section, if it has this name
abbrev pub named : List ℕ → Section → Option Section → Option Section
named name section other = if bytes_eq name (section_name section) then Some section else other

-- the block of a name, if it is read
abbrev pub section_of : List ℕ → Option Section
section_of name =
    named name Estimates (named name Apriori (named name Vector (named name EstimateMatrix (named name AprioriMatrix
    (named name NormalMatrix (named name Sites (named name Epochs None)))))))
