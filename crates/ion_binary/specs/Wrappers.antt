-- What is seen of wrappers, annotations, fields and open containers in the code.
use Rattle.std.specs.Prelude.{List, [], ◌∷◌, map, reverse, Option, Some, None}
use Rattle.ion_value.specs.declared.item.Annotation.{Annotation}
use Rattle.ion_value.specs.Items.{raw_annotation}
use Rattle.ion_value.specs.Value.{Id, SymbolAt}
use Rattle.ion_binary.specs.declared.wrapper.Wrapper as code
use Rattle.ion_binary.specs.declared.wrapper.Field as field
use Rattle.ion_binary.specs.declared.wrapper.Frame as frame
use Rattle.ion_binary.specs.Positions.{Frame}
use Rattle.ion_binary.specs.Reading.{Wrapped}

-- where a wrapper's ids and the wrapper itself end, from the code's `Wrapper`
abbrev pub as_wrapped : code.Wrapper → Wrapped
as_wrapped w = record { ids = w.ids; end = w.end }

-- annotations that are ids
abbrev pub as_annotations : List Annotation → List SymbolAt
as_annotations annotations = map (raw_annotation []) annotations

-- a field from the code, which keeps its id and its place
abbrev pub as_field : Option field.Field → Option SymbolAt
as_field None = None
as_field (Some f) = Some (record { symbol = Id f.id; place = f.place })

-- an open container from the code, by its kind and the place of its end
abbrev pub as_frame : frame.Frame → Frame
as_frame f = record { kind = f.kind; end = f.end }

-- open containers, which the code keeps the innermost last
abbrev pub as_frames : List frame.Frame → List Frame
as_frames frames = map as_frame (reverse frames)

-- the innermost of them alone
abbrev pub innermost : Option frame.Frame → List Frame
innermost None = []
innermost (Some f) = as_frame f ∷ []
