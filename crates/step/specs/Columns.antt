-- Columns and faces of the program as the water book has them.
use Rattle.book.specs.Faces as book
use Rattle.step.specs.declared.column.Column.{Column}
use Rattle.step.specs.declared.edge.Edge.{Edge}
use Rattle.step.specs.declared.edge.Edges.{Edges}

abbrev pub column_of : Column → book.Column
column_of k = record { bed = k.bed; depth = k.depth; normal = k.normal; along = k.along }

abbrev pub edge_seen : Edge → book.FaceSide
edge_seen e = record { depth = e.side.depth; normal = e.side.normal; along = e.along }

abbrev pub face_seen : Edges → book.Face
face_seen f = record { left = edge_seen f.left; right = edge_seen f.right }
