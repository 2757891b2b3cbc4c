-- What is shown of a refusal to a reader of English.
-- Assumes nothing.
use Rattle.std.specs.Prelude.{ℕ, List, ◌++◌, codes, decimal}
use Rattle.yuv_error.specs.declared.MismatchedSize.{MismatchedSize}
use Rattle.yuv_error.specs.declared.YuvError.{YuvError}
use Rattle.yuv_error.specs.declared.YuvError.TheVariants.{MalformedRequest, ZeroBaseSize, SizeTooLarge, MatrixNotAccepted, BandRowsMismatch}
use Rattle.yuv_error.specs.declared.YuvError.TheVariants.{DestinationSizeMismatch, MinimumStrideSizeMismatch, LumaPlaneMinimumSizeMismatch}
use Rattle.yuv_error.specs.declared.YuvError.TheVariants.{LumaPlaneSizeMismatch, UPlaneMinimumSizeMismatch, VPlaneMinimumSizeMismatch}
use Rattle.yuv_error.specs.declared.YuvError.TheVariants.{WholeRowsMismatch, CarriedRowSizeMismatch, WindowOutsideSource}
use Rattle.yuv_error.specs.declared.YuvError.TheVariants.{MalformedShiftFile, OutputTooShort, SummaryMismatch, PartsMismatch, MalformedY4m}
use Rattle.yuv_error.specs.declared.YuvError.TheVariants.{SettingsRecorded, CameraMismatch, BandStillWaiting, CameraInUse}

abbrev pub size_text : MismatchedSize → List ℕ
size_text m = codes "expected " ++ (decimal m.expected ++ (codes ", received " ++ decimal m.received))

abbrev pub error_text : YuvError → List ℕ
error_text MalformedRequest = codes "the request, the count of numbers or a code is malformed"
error_text ZeroBaseSize = codes "the size has no pixel"
error_text SizeTooLarge = codes "a side has too many pixels"
error_text MatrixNotAccepted = codes "the matrix is not accepted"
error_text BandRowsMismatch = codes "the band's rows do not follow"
error_text (DestinationSizeMismatch m) = codes "the source is too short: " ++ size_text m
error_text (MinimumStrideSizeMismatch m) = codes "the source's stride is below its row: " ++ size_text m
error_text (LumaPlaneMinimumSizeMismatch m) = codes "the Y plane's stride is below its row: " ++ size_text m
error_text (LumaPlaneSizeMismatch m) = codes "the Y plane is too short: " ++ size_text m
error_text (UPlaneMinimumSizeMismatch m) = codes "the U plane is too narrow or too short: " ++ size_text m
error_text (VPlaneMinimumSizeMismatch m) = codes "the V plane is too narrow or too short: " ++ size_text m
error_text (WholeRowsMismatch m) = codes "the rows are not whole: " ++ size_text m
error_text (CarriedRowSizeMismatch m) = codes "the carried row has another length: " ++ size_text m
error_text WindowOutsideSource = codes "the window reaches past its source"
error_text MalformedShiftFile = codes "the shift file, or what a record would hold, is malformed"
error_text OutputTooShort = codes "the output is too short"
error_text SummaryMismatch = codes "the summary is not that of the file"
error_text PartsMismatch = codes "the frames or parts are not allowed together"
error_text MalformedY4m = codes "the Y4M file, or what it would hold, is malformed"
error_text SettingsRecorded = codes "a record would lose its settings"
error_text CameraMismatch = codes "there is no such camera, or it has no open frame"
error_text BandStillWaiting = codes "a band of this camera still waits"
error_text CameraInUse = codes "the camera already has an open frame"
