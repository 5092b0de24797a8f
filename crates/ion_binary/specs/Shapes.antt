-- What is seen of the shapes of the code.
use Rattle.ion_binary.specs.declared.descriptor.Shape as code
use Rattle.ion_binary.specs.declared.descriptor.Shape.TheVariants as shape
use Rattle.ion_binary.specs.Descriptor.{Shape, null, bool, nop_pad, wrapper, body, container, sorted, marker, float, illegal}

-- what a descriptor says, from the code's `Shape`
abbrev pub as_shape : code.Shape → Shape
as_shape (shape.Null type) = null type
as_shape (shape.Bool truth) = bool truth
as_shape (shape.NopPad length_code) = nop_pad length_code
as_shape (shape.Wrapper length_code) = wrapper length_code
as_shape (shape.Body type_code length_code) = body type_code length_code
as_shape (shape.Container kind length_code) = container kind length_code
as_shape shape.Sorted = sorted
as_shape shape.Marker = marker
as_shape (shape.Float length_code) = float length_code
as_shape shape.Illegal = illegal
