-- How a source is called.
use Rattle.std.specs.Prelude.{ℕ, List, codes}
use Rattle.vectors.specs.declared.Source.{Source}
use Rattle.vectors.specs.declared.Source.TheVariants.{Catalogue, Python}

abbrev pub source_text : Source → List ℕ
source_text Catalogue = codes "the catalogue"
source_text Python = codes "Python"
