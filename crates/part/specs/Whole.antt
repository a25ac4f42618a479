-- A part of the code as one value of the promises, by what its dialect and its cells say of themselves.
use Rattle.cells.specs.declared.Cells.{Ghosts as Cells}
use Rattle.dialect.specs.declared.Dialect.{Ghosts as Dialect}
use Rattle.promises.specs.Served.{Whole}
use Rattle.part.specs.declared.Part.{Part}
use Rattle.part.specs.View.{whole_of}

abbrev pub whole : {D C : Type 0} → Dialect D → Cells C → Part D C → Whole
whole d c p = whole_of d.facts c.lasting (c.site p.cells) (c.images p.cells) p.control p.selection
