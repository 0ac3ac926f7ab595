-- The names of the fields of a journal's lines.
use Rattle.std.specs.Prelude.{ℕ, List, codes}
use Rattle.journal.specs.declared.name.Name.{Name}
use Rattle.journal.specs.declared.name.Name.TheVariants.{Serial, Contracted, Capacity, Energy, Kwh, First, Second, Index, Year, Costs, Peaks, Sent, Delivered, Losses, Coefficients, Interest, Close, Draw, Release, Hold}

abbrev pub name_text : Name → List ℕ
name_text Serial = codes "serial"
name_text Contracted = codes "contracted"
name_text Capacity = codes "capacity"
name_text Energy = codes "energy"
name_text Kwh = codes "kwh"
name_text First = codes "first"
name_text Second = codes "second"
name_text Index = codes "index"
name_text Year = codes "year"
name_text Costs = codes "costs"
name_text Peaks = codes "peaks"
name_text Sent = codes "sent"
name_text Delivered = codes "delivered"
name_text Losses = codes "losses"
name_text Coefficients = codes "coefficients"
name_text Interest = codes "interest"
name_text Close = codes "close"
name_text Draw = codes "draw"
name_text Release = codes "release"
name_text Hold = codes "hold"
